-- What it means that nothing is found against the sizes and lengths of two parts, by themselves and together.
use mathlib.Core.Path.{◌≡◌}
use Prim.Native.Nat.{ℕ, ◌+◌, ◌≤◌}
use Rattle.chain.specs.Verdict.{fine}
use Rattle.chain.specs.Chain.{most_payslips, most_steps}
use Rattle.chain.proofs.Rules.{then_fine, refuse_if_fine, not_lt}
use Rattle.chain.proofs.Sizes.{Sizes, sizes_fit, length-fits}
use Rattle.pool.specs.Pool.{both_sizes_rule, both_lengths_rule}

pub record BothSizes (p q p' q' : ℕ) : Type 0 where
  pub first : Sizes p q
  pub second : Sizes p' q'
  pub together : q + q' ≤ most_payslips

pub both_sizes_fit : (p q p' q' : ℕ) → both_sizes_rule p q p' q' ≡ fine → BothSizes p q p' q'
unfolding both_sizes_rule
both_sizes_fit p q p' q' e =
    let a = then_fine _ _ e in
    let b = then_fine _ _ a.1 in
    record { first = sizes_fit p q a.0; second = sizes_fit p' q' b.0; together = not_lt _ _ (refuse_if_fine _ 1 0 b.1) }

pub record BothLengths (n n' : ℕ) : Type 0 where
  pub first : n ≤ most_steps
  pub second : n' ≤ most_steps
  pub together : n + n' ≤ most_steps

pub both_lengths_fit : (n n' : ℕ) → both_lengths_rule n n' ≡ fine → BothLengths n n'
unfolding both_lengths_rule
both_lengths_fit n n' e =
    let a = then_fine _ _ e in
    let b = then_fine _ _ a.1 in
    record { first = length-fits most_steps n a.0; second = length-fits most_steps n' b.0; together = length-fits most_steps (n + n') b.1 }
