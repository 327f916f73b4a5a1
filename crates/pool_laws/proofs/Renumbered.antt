-- Renumbering moves no value down and none up by more than n, and keeps their order: so a legal step stays legal.
use mathlib.Core.List.{List, ◌++◌, map}
use Prim.Native.Nat.{ℕ, ◌+◌, ◌≤◌, ◌<◌}
use native.Mathlib.Decide.{dec_lt}
use native.Mathlib.Omega.{arith}
use lib.ListN.{length}
use Rattle.chain.specs.declared.Step.{Step}
use Rattle.chain.proofs.Steps.{LegalStep}
use Rattle.pool.specs.Pool.{renumbered, renumbered_step}
use Rattle.pool.proofs.Numbers.{renumbered_start, renumbered_step_lem}

-- the pool's steps and outputs, for parts that have the same p
abbrev pub joined_steps : ℕ → List Step → List Step → List Step
joined_steps p steps steps' = steps ++ map (renumbered_step p (length steps)) steps'

abbrev pub joined_outputs : ℕ → ℕ → List ℕ → List ℕ → List ℕ
joined_outputs p n outputs outputs' = outputs ++ map (renumbered p n) outputs'

module _ (p n : ℕ) where
  -- no number falls, and none rises by more than n
  pub renumbered_between : (v : ℕ) → (v ≤ renumbered p n v) × (renumbered p n v ≤ v + n)
  renumbered_between v = by_size (dec_lt p v)
    where
      by_size : Dec (p < v) → (v ≤ renumbered p n v) × (renumbered p n v ≤ v + n)
      by_size (yes lt) = (omega (arith, renumbered_step_lem p n v lt), omega (arith, renumbered_step_lem p n v lt))
      by_size (no ge) = (omega (arith, renumbered_start p n v (omega arith)), omega (arith, renumbered_start p n v (omega arith)))

  renumbered_order : (u v : ℕ) → u ≤ v → renumbered p n u ≤ renumbered p n v
  renumbered_order u v h = by_size (dec_lt p v)
    where
      by_size : Dec (p < v) → renumbered p n u ≤ renumbered p n v
      by_size (yes lt) = omega (arith, renumbered_step_lem p n v lt, (renumbered_between u).1)
      by_size (no ge) = omega (arith, renumbered_start p n v (omega arith), renumbered_start p n u (omega arith))

  pub renumbered_legal : (v : ℕ) (x : Step) → LegalStep v x → LegalStep (v + n) (renumbered_step p n x)
  renumbered_legal v x l =
      record {
        first_some = omega (arith, l.first_some, (renumbered_between x.first).0);
        second_some = omega (arith, l.second_some, (renumbered_between x.second).0);
        first_low = omega (arith, l.first_low, (renumbered_between x.first).1);
        second_low = omega (arith, l.second_low, (renumbered_between x.second).1);
        in_order = renumbered_order x.second x.first l.in_order;
      }
