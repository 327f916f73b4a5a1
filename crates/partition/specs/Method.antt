-- Method 3 as a method (Spec 3): its chain, its count and its ceiling.
use Rattle.std.specs.Prelude.{List, ℕ}
use Rattle.methods.specs.Method.{Method}
use Rattle.partition.specs.Partition.{partition, partition_ceiling, partition_count}

abbrev pub partition_method : ℕ → ℕ → List ℕ → ℕ → Method
partition_method p q amounts c =
    record { chain = partition p q amounts c; count = partition_count p q amounts c; ceiling = partition_ceiling p q amounts c }
