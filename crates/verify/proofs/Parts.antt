-- The check's order is its start, then the rest of the chain: the rule taken apart where the steps begin.
use mathlib.Core.Path.{◌≡◌, ap, ◌∙◌}
use mathlib.Core.List.{List}
use Prim.Native.Nat.{ℕ, ◌*◌}
use lib.ListN.{length}
use Rattle.chain.specs.Verdict.{Verdict, fine, ◌then◌}
use Rattle.chain.specs.Chain.{most_steps, shape_rule}
use Rattle.chain.specs.declared.Step.{Step}
use Rattle.chain.proofs.Rules.{then_assoc, then_fine, told_after}
use Rattle.chain.proofs.Sizes.{Shape, shape_fits}
use Rattle.rest.specs.Inner.{rest_rule}
use Rattle.rest.proofs.Rest.{rest_is}
use Rattle.sheet.specs.Sheet.{amounts_rule}
use Rattle.sheet.proofs.Amounts.{amounts_fit}
use Rattle.verify.specs.Verify.{fitting_rule}
use Rattle.verify.specs.Inner.{start_rule}

pub fitting_parts : (p : ℕ) (steps : List Step) (outputs amounts : List ℕ) (scratch : ℕ)
    → (start_rule p (length outputs) (length steps) amounts then rest_rule p steps outputs scratch) ≡ fitting_rule p steps outputs amounts scratch
unfolding fitting_rule start_rule
fitting_parts p steps outputs amounts scratch =
    then_assoc (shape_rule most_steps p (length outputs) (length steps)) (amounts_rule p (length outputs) amounts) (rest_rule p steps outputs scratch)
    ∙ ap (λ (v : Verdict). shape_rule most_steps p (length outputs) (length steps) then amounts_rule p (length outputs) amounts then v)
    (rest_is p steps outputs scratch)

-- the verdict, part by part
pub fitting_told : (p : ℕ) (steps : List Step) (outputs amounts : List ℕ) (scratch : ℕ) (s v : Verdict)
    → s ≡ start_rule p (length outputs) (length steps) amounts → v ≡ (s then rest_rule p steps outputs scratch)
    → v ≡ fitting_rule p steps outputs amounts scratch
fitting_told p steps outputs amounts scratch s v starts e =
    told_after s _ _ v starts e
    ∙ fitting_parts p steps outputs amounts scratch

-- a start that is fine
pub record Started (p q n : ℕ) (amounts : List ℕ) : Type 0 where
  pub shape : Shape most_steps p q n
  pub amounts_fit : length amounts ≡ p * q

pub started : (p q n : ℕ) (amounts : List ℕ) → start_rule p q n amounts ≡ fine → Started p q n amounts
unfolding start_rule
started p q n amounts e =
    let a = then_fine _ _ e in
    record { shape = shape_fits most_steps p q n a.0; amounts_fit = amounts_fit p q amounts a.1 }
