-- From the steps on a chain is judged by its own rule, and then its cells: the three parts, grouped one way or the other.
use mathlib.Core.Path.{◌≡◌, refl, sym}
use mathlib.Core.List.{List}
use Prim.Native.Nat.{ℕ, ◌+◌, ◌≤◌, ◌<◌}
use native.Mathlib.Omega.{arith}
use lib.ListN.{length, get_or}
use Rattle.chain.specs.Tests.{◌<?◌}
use Rattle.chain.specs.Verdict.{fine, ◌then◌, refuse_if}
use Rattle.chain.specs.Chain.{most_steps, steps_rule, outputs_rule, chain_rule}
use Rattle.chain.specs.declared.Step.{Step}
use Rattle.chain.proofs.Rules.{then_assoc, then_fine, refuse_if_fine, not_lt}
use Rattle.chain.proofs.Limits.{outputs_low}
use Rattle.chain.proofs.Sizes.{Shape}
use Rattle.rest.specs.Inner.{EndAsked, end_rule, rest_rule}

pub rest_is : (p : ℕ) (steps : List Step) (outputs : List ℕ) (cells : ℕ)
    → rest_rule p steps outputs cells ≡ (chain_rule p steps outputs then refuse_if (cells <? p + length steps + 1) 5 0)
unfolding rest_rule end_rule chain_rule
rest_is p steps outputs cells = sym (then_assoc (steps_rule p 1 steps) (outputs_rule (p + length steps) 1 outputs) _)

pub rest_parts : (p : ℕ) (steps : List Step) (outputs : List ℕ) (cells : ℕ)
    → (steps_rule p 1 steps then end_rule p (length steps) outputs cells) ≡ rest_rule p steps outputs cells
unfolding rest_rule
rest_parts p steps outputs cells = refl

-- a shape that is fine has what the end asks
pub end_asked : {p q n : ℕ} → Shape most_steps p q n → EndAsked p n
end_asked s = record { p_low = s.sizes.p_low; n_low = s.few }

-- an end that is fine
pub record Ended (p n : ℕ) (outputs : List ℕ) (cells : ℕ) : Type 0 where
  pub outputs_within : (i : ℕ) → i < length outputs → get_or outputs i 0 ≤ p + n
  pub cells_fit : p + n < cells

pub ended : (p n : ℕ) (outputs : List ℕ) (cells : ℕ) → end_rule p n outputs cells ≡ fine → Ended p n outputs cells
unfolding end_rule
ended p n outputs cells e =
    let a = then_fine _ _ e in
    let enough = not_lt cells (p + n + 1) (refuse_if_fine _ 5 0 a.1) in
    record { outputs_within = outputs_low (p + n) 1 outputs a.0; cells_fit = omega arith }
