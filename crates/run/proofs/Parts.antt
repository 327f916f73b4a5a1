-- Run's order is its start, the rest of the chain, then the figures: the rule taken apart where the steps begin and where the chain ends.
use mathlib.Core.Path.{◌≡◌, ap, ◌∙◌}
use mathlib.Core.Bool.{Bool}
use mathlib.Core.List.{List}
use Prim.Native.Nat.{ℕ, ◌+◌, ◌<◌}
use native.Mathlib.Omega.{arith}
use lib.ListN.{length}
use Rattle.chain.specs.Tests.{◌<?◌, ◌or◌}
use Rattle.chain.specs.Verdict.{Verdict, fine, ◌then◌, refuse_if}
use Rattle.chain.specs.Chain.{most_steps, shape_rule, chain_rule}
use Rattle.chain.specs.declared.Step.{Step}
use Rattle.chain.proofs.Rules.{then_assoc, then_fine, told_after, refuse_either, refuse_if_fine, neither, not_eq, not_ne}
use Rattle.chain.proofs.Sizes.{Shape, shape_fits}
use Rattle.rest.specs.Inner.{rest_rule}
use Rattle.rest.proofs.Rest.{rest_is}
use Rattle.run.specs.Run.{run_rule}
use Rattle.run.specs.Inner.{start_rule, figures_rule}

pub run_parts : (p : ℕ) (steps : List Step) (outputs : List ℕ) (m : ℕ) (bases : List ℕ) (cells figures : ℕ)
    → (start_rule p (length outputs) (length steps) m bases then rest_rule p steps outputs cells then figures_rule (length outputs) figures)
    ≡ run_rule p steps outputs m bases cells figures
unfolding run_rule start_rule figures_rule
run_parts p steps outputs m bases cells figures =
    ap (λ (v : Verdict). start_rule p (length outputs) (length steps) m bases then v) room
    ∙ then_assoc (shape_rule most_steps p (length outputs) (length steps)) _ _
    ∙ ap (λ (v : Verdict). shape_rule most_steps p (length outputs) (length steps) then v) (then_assoc _ _ _)
  where
    few : Bool
    few = cells <? p + length steps + 1

    -- the cells and the figures are tested as one
    room : (rest_rule p steps outputs cells then refuse_if (figures <? length outputs) 5 0)
        ≡ (chain_rule p steps outputs then refuse_if (few or figures <? length outputs) 5 0)
    room =
        ap (λ (v : Verdict). v then refuse_if (figures <? length outputs) 5 0) (rest_is p steps outputs cells)
        ∙ then_assoc (chain_rule p steps outputs) (refuse_if few 5 0) _
        ∙ ap (λ (v : Verdict). chain_rule p steps outputs then v) (refuse_either few (figures <? length outputs) 5 0)

-- the verdict, part by part
pub run_told : (p : ℕ) (steps : List Step) (outputs : List ℕ) (m : ℕ) (bases : List ℕ) (cells figures : ℕ) (s r v : Verdict)
    → s ≡ start_rule p (length outputs) (length steps) m bases → r ≡ (s then rest_rule p steps outputs cells)
    → v ≡ (r then figures_rule (length outputs) figures) → v ≡ run_rule p steps outputs m bases cells figures
run_told p steps outputs m bases cells figures s r v starts rests e =
    told_after s _ _ v starts
    (told_after r _ _ v rests e ∙ then_assoc s (rest_rule p steps outputs cells) (figures_rule (length outputs) figures))
    ∙ run_parts p steps outputs m bases cells figures

-- a start that is fine
pub record Started (p q n m : ℕ) (bases : List ℕ) : Type 0 where
  pub shape : Shape most_steps p q n
  pub modulus : 0 < m
  pub bases_are_p : length bases ≡ p

pub started : (p q n m : ℕ) (bases : List ℕ) → start_rule p q n m bases ≡ fine → Started p q n m bases
unfolding start_rule
started p q n m bases e =
    let a = then_fine _ _ e in
    let c = then_fine _ _ a.1 in
    let some = not_eq m 0 (refuse_if_fine _ 15 0 c.0) in
    record {
      shape = shape_fits most_steps p q n a.0;
      modulus = omega arith;
      bases_are_p = not_ne (length bases) p (neither _ _ (refuse_if_fine _ 16 0 c.1)).0;
    }
