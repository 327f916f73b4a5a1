-- A payslip's parts by their numbers are its parts by its bits: the numbers are the bits' and each table stands where the full ones before it end.
use mathlib.Core.Path.{◌≡◌, refl, sym, ap, ap₂, ◌∙◌}
use mathlib.Core.List.{List}
use Prim.Native.Nat.{ℕ, zero, suc, ◌+◌, ◌*◌, ◌^◌, ◌≤◌, ◌<◌}
use native.Mathlib.Numerals.{add-one}
use native.Mathlib.Omega.{arith}
use lib.ListN.{length, get_or}
use Rattle.chain.specs.declared.Step.{Step}
use Rattle.products.specs.Product.{Made, made, times}
use Rattle.products.specs.Inner.{steps_in, StepsRoom, Emitted}
use Rattle.products.specs.declared.Progress.{Progress}
use Rattle.products.proofs.Sound.{Begins, begins_rise}
use Rattle.products.proofs.Product.{times_begins}
use Rattle.products.proofs.Emitted.{emits_room, emits_on}
use Rattle.tables.specs.Table.{entry}
use Rattle.methods.specs.Powers.{counts_of}
use Rattle.methods.proofs.Powers.{squarings_count}
use Rattle.groups.specs.declared.Grouping.{Grouping}
use Rattle.groups.specs.Groups.{column_squarings, group, group_count, input_count, inputs, selection, sheet_squarings, weigh}
use Rattle.groups.specs.Inner.{table_at}
use Rattle.groups.proofs.Measured.{grouped_count}
use Rattle.groups.proofs.Members.{members_count, selection_two}
use Rattle.groups.proofs.Parts.{part_number}
use Rattle.groups.proofs.Prepared.{selection_long}
use Rattle.subsets.proofs.Places.{table_place}
use Rattle.partition_emit.specs.Inner.{Numbered, Ready, parts_by, payslip_of}
use Rattle.partition.specs.Partition.{partition_payslip, parts}
use Rattle.partition.proofs.Parts.{parts_begin}

-- a payslip's parts by their numbers
module _ (s : Grouping) (members : List ℕ) (number : ℕ → ℕ) (before : List Step) where
  abbrev by_number : ℕ → Made
  by_number = parts_by s members number before

  rise : (g G : ℕ) → g ≤ G → Begins (by_number g).steps (by_number G).steps
  rise = begins_rise (λ g. (by_number g).steps) (λ g. times_begins s.p (by_number g) _)

  -- one part more: y its value
  module _ (old cells : List ℕ) (m : Progress) (v g y : ℕ) (e : Emitted old cells m v (parts_by s members number before g))
      (value : y ≡ entry 1 (group s.c g members) (table_at s g) (number g)) where
    next : times s.p (by_number g) y ≡ by_number (suc g)
    next = ap (times s.p (by_number g)) value

    pub part_room : (n : Progress) → StepsRoom s.p old n (parts_by s members number before s.groups).steps → g < s.groups
        → StepsRoom s.p cells m (times s.p (made (steps_in cells m.steps) v) y).steps
    part_room n room h = emits_room room (λ r. times s.p r y) e (times_begins s.p _ y) (rw next (rise (suc g) s.groups h))

    pub part_on : (cells' : List ℕ) (m' : Progress) (v' : ℕ) → Emitted cells cells' m' v' (times s.p (made (steps_in cells m.steps) v) y)
        → Emitted old cells' m' v' (parts_by s members number before (g + 1))
    part_on cells' m' v' f = rw (add-one g, ← next) (emits_on (λ r. times s.p r y) e (times_begins s.p _ y) f)

-- of payslip i of a grouped sheet
module _ {s : Grouping} {amounts bits members cells : List ℕ} (ready : Ready s amounts bits members cells) where
  abbrev squares : List Step
  squares = sheet_squarings s.p s.q amounts

  pub members_long : length members ≡ s.inputs
  members_long = ap length ready.members_are ∙ members_count s.p s.q amounts ∙ sym ready.grouped.inputs_are

  squared : length squares ≡ s.squarings
  squared = squarings_count s.p (column_squarings s.p s.q amounts) s.p ∙ sym ready.grouped.squarings_are

  module _ (i : ℕ) (numbers : List ℕ)
      (at : (g : ℕ) → g < s.groups → get_or numbers g 0 ≡ weigh (group s.c g (selection s.p s.q amounts i))) where
    abbrev own : List ℕ
    own = selection s.p s.q amounts i

    parts_same : (before : List Step) (g : ℕ) → g ≤ s.groups
        → parts_by s members (counts_of numbers) before g ≡ parts s.p s.c members squares own before g
    parts_same before zero h = refl
    parts_same before (suc g) h =
        let there = table_place s ready.grouped.cuts members squares members_long squared g h in
        ap₂ (times s.p) (parts_same before g (omega arith)) (ap₂ (entry 1 (group s.c g members)) (sym there) (at g h))

    pub payslip_is : (before : List Step) → parts_by s members (counts_of numbers) before s.groups ≡ payslip_of s amounts i before
    payslip_is before =
        parts_same before s.groups (omega arith)
        ∙ ap₂ (λ (m : List ℕ) (g : ℕ). parts s.p s.c m squares own before g) ready.members_are (grouped_count ready.grouped)

    pub payslip_numbered : length numbers ≡ s.groups → Numbered s members numbers
    payslip_numbered long = record { cuts = ready.grouped.cuts; members_long = members_long; numbers_long = long; numbers_low = low }
      where
        low : (g : ℕ) → g < s.groups → get_or numbers g 0 < 2 ^ (1 * length (group s.c g members))
        low g h =
            rw (at g h, ready.members_are)
            (part_number s.c (inputs s.p s.q amounts) own (selection_long s.p s.q amounts i) (selection_two s.p s.q amounts i) g)

-- a payslip only appends steps
pub payslip_begins : (p q : ℕ) (amounts : List ℕ) (c i : ℕ) (before : List Step) → Begins before (partition_payslip p q amounts c i before).steps
payslip_begins p q amounts c i before =
    parts_begin p c (inputs p q amounts) (sheet_squarings p q amounts) (selection p q amounts i) before 0 (group_count c (input_count p q amounts)) (omega arith)
