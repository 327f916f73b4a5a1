-- Each operand of a legal step and each output is at most p + n, by the rule that accepted it, so that it fits W bits.
use mathlib.Core.Path.{◌≡◌}
use mathlib.Core.List.{List}
use Prim.Native.Nat.{ℕ, ◌+◌, ◌^◌, ◌≤◌, ◌<◌}
use native.Mathlib.Nat.{lt_of_not-le}
use native.Mathlib.Decide.{dec_le}
use native.Mathlib.Omega.{arith}
use lib.ListN.{length, get_or, get_or-eq_default}
use Rattle.chain.specs.Verdict.{fine}
use Rattle.chain.specs.Chain.{flat, chain_rule}
use Rattle.chain.specs.declared.Step.{Step}
use Rattle.chain.proofs.Rules.{then_fine}
use Rattle.chain.proofs.Steps.{flat_low}
use Rattle.chain.proofs.Limits.{outputs_low}
use Rattle.layout.specs.File.{width}
use Rattle.layout.proofs.Lengths.{width_holds}

module _ (p : ℕ) (steps : List Step) (outputs : List ℕ) (ok : chain_rule p steps outputs ≡ fine) where
  pub operands_small : (k : ℕ) → get_or (flat steps) k 0 < 2 ^ width p (length steps)
  unfolding chain_rule
  operands_small k =
      width_holds p (length steps) (get_or (flat steps) k 0) (flat_low p 1 (p + length steps) steps (then_fine _ _ ok).0 (omega arith) k)

  pub outputs_small : (k : ℕ) → get_or outputs k 0 < 2 ^ width p (length steps)
  unfolding chain_rule
  outputs_small k = width_holds p (length steps) (get_or outputs k 0) (by_place (dec_le (length outputs) k))
    where
      by_place : Dec (length outputs ≤ k) → get_or outputs k 0 ≤ p + length steps
      by_place (yes past) = omega (arith, get_or-eq_default outputs 0 past)
      by_place (no before) = outputs_low (p + length steps) 1 outputs (then_fine _ _ ok).1 k (lt_of_not-le before)
