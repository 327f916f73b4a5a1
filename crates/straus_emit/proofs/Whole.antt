-- The chain is the table of the bases and then the payslips: there is room for both, and both together are what was asked for.
use mathlib.Core.Path.{◌≡◌, ap}
use mathlib.Core.List.{List, ◌++◌}
use Prim.Native.Nat.{ℕ, ◌+◌, ◌*◌, ◌^◌, ◌≤◌}
use native.Mathlib.Nat.{add-zero, mul_comm}
use native.Mathlib.Omega.{arith}
use lib.ListN.{length}
use lib.Pow.{pow_mono}
use Rattle.chain.specs.declared.Step.{Step}
use Rattle.products.specs.Product.{payslips}
use Rattle.products.specs.Inner.{steps_in, begun, StepsRoom, StepsStored}
use Rattle.products.specs.declared.Progress.{Progress}
use Rattle.tables.specs.Table.{table}
use Rattle.tables.specs.Inner.{TableAsked}
use Rattle.methods.specs.Inner.{ChainRoom, ChainStored, PayslipsRoom}
use Rattle.methods.proofs.Paying.{begin_room, payslips_room, chain_stored}
use Rattle.straus.specs.Straus.{straus_table, straus_payslip, straus, straus_count, straus_most_bits}
use Rattle.straus.proofs.Bases.{length-bases}
use Rattle.straus_emit.specs.Inner.{ChainOver}
use Rattle.straus_emit.proofs.Emitting.{payslip_begins}
use Rattle.straus.proofs.Straus.{straus_count_lem}

module _ {p q : ℕ} {amounts : List ℕ} {k : ℕ} {inputs : List ℕ} (asked : ChainOver p q amounts k inputs) where
  size_low : k * length inputs ≤ straus_most_bits
  size_low = omega (arith, asked.chain.bits_low, ap (λ (l : List ℕ). k * length l) asked.bases_are, ap (λ (n : ℕ). k * n) (length-bases p), mul_comm k p)

  pub table_asked : TableAsked p k inputs 0
  table_asked =
      let ranges = asked.chain.ranges in
      let most : 2 ^ (k * length inputs) ≤ 2 ^ straus_most_bits = pow_mono {j = straus_most_bits} size_low in
      record {
        k_some = ranges.k_some;
        k_low = omega (arith, ranges.k_low);
        places_low = omega (arith, size_low);
        numbers_low = omega (arith, ranges.sheet.p_low);
      }

  -- the table as it is emitted, before any other step
  abbrev Table : List ℕ → List Step
  Table old = steps_in old 0 ++ table k inputs (p + 0 + 1) (2 ^ (k * length inputs))

  table_is : (old : List ℕ) → Table old ≡ straus_table p k
  table_is old = rw (asked.bases_are, length-bases p, add-zero p, mul_comm k p)

  counted : length (payslips (straus_payslip p amounts k) (straus_table p k) q).steps ≡ straus_count p q amounts k
  unfolding straus
  counted = straus_count_lem p q amounts k asked.chain.ranges.k_some

  module _ {old outputs : List ℕ} (fits : ChainRoom q (straus_count p q amounts k) old outputs) where
    pub table_room : StepsRoom p old begun (Table old)
    table_room =
        rw (table_is old)
        (begin_room (straus_payslip p amounts k) (payslip_begins p amounts k) (straus_table p k) q asked.chain.ranges.sheet.p_low fits counted)

    pub after_table : {cells : List ℕ} {r : Progress} → StepsStored old cells r (Table old)
        → PayslipsRoom p q cells r (payslips (straus_payslip p amounts k) (steps_in cells r.steps) q).steps outputs
    after_table st =
        payslips_room (straus_payslip p amounts k) (payslip_begins p amounts k) (straus_table p k) q asked.chain.ranges.sheet.p_low fits counted
        (rw (table_is old) at st)

  pub chain_made : {old cells outputs₀ cells' outputs' : List ℕ} {s s' : Progress} → StepsStored old cells s (Table old)
      → ChainStored cells outputs₀ cells' outputs' s' (payslips (straus_payslip p amounts k) (steps_in cells s.steps) q)
      → ChainStored old outputs₀ cells' outputs' s' (straus p q amounts k)
  unfolding straus
  chain_made {old} st r = chain_stored (straus_payslip p amounts k) (payslip_begins p amounts k) (straus_table p k) q (rw (table_is old) at st) r
