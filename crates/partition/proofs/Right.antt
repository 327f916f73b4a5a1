-- Method 3 is right: every payslip is made after the tables, and the steps are as many as the count, which keeps to the ceiling.
use mathlib.Core.List.{List}
use Prim.Native.Nat.{ℕ, ◌≤◌}
use lib.ListN.{get_or}
use Rattle.chain.specs.Chain.{most_amount}
use Rattle.methods.proofs.Right.{Right, pays_right}
use Rattle.partition.specs.Method.{partition_method}
use Rattle.partition.proofs.Partition.{partition_ceiling_lem, partition_count_lem, partition_pays}

pub partition_right : (p q : ℕ) (amounts : List ℕ) (c : ℕ) → 1 ≤ c → ((j : ℕ) → get_or amounts j 0 ≤ most_amount)
    → Right p q amounts (partition_method p q amounts c)
partition_right p q amounts c some low =
    pays_right (partition_method p q amounts c) (partition_pays p q amounts c some low) (partition_count_lem p q amounts c) (partition_ceiling_lem p q amounts c)
