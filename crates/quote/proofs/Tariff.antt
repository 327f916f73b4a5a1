-- Method 3 is the method of number 3, so what the laws of its ceiling say is said of what is compiled by that number.
use mathlib.Core.Path.{◌≡◌, ap, ◌∙◌}
use mathlib.Core.List.{List}
use Prim.Native.Nat.{ℕ, ◌≤◌}
use native.Mathlib.Omega.{arith}
use lib.ListN.{length}
use Rattle.chain.specs.Verdict.{fine}
use Rattle.methods.specs.Method.{Method}
use Rattle.partition.specs.Partition.{partition, partition_ceiling}
use Rattle.partition.specs.Method.{partition_method}
use Rattle.partition.proofs.Ceiling.{ceiling_none, ceiling_some, ceiling_low}
use Rattle.partition.proofs.Partition.{partition_ceiling_lem, partition_count_lem}
use Rattle.parameters.specs.Parameters.{method_rule}
use Rattle.parameters.proofs.Fits.{method_fits}
use Rattle.quote.specs.ByMethod.{method_of, chain_of, ceiling}
use Rattle.quote.specs.Tariff.{Tariff}
use Rattle.quote.proofs.ByMethod.{is_partition}

pub tariff : (p q : ℕ) (amounts : List ℕ) (c : ℕ) → method_rule p 3 c ≡ fine → Tariff p q amounts c
tariff p q amounts c fits =
    record {
      summed = same ∙ ceiling_some p q amounts c;
      none = λ e. same ∙ ceiling_none p q amounts c some e;
      kept = omega (arith, made, same, partition_count_lem p q amounts c, partition_ceiling_lem p q amounts c);
      lowered = omega (arith, same, ceiling_low p q amounts c);
    }
  where
    is : method_of p q amounts 3 c ≡ partition_method p q amounts c
    is = is_partition p q amounts 3 c (λ e. omega arith) (λ e. omega arith)

    same : ceiling p q amounts 3 c ≡ partition_ceiling p q amounts c
    same = ap (λ (m : Method). m.ceiling) is

    made : length (chain_of p q amounts 3 c).steps ≡ length (partition p q amounts c).steps
    made = ap (λ (m : Method). length m.chain.steps) is

    some : 1 ≤ c
    some = ((method_fits p 3 c fits).more (λ e. omega arith)).2
