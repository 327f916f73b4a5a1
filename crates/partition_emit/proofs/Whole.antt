-- Squarings and tables begin the chain, so there is room for them, and the payslips stored after them make it whole.
use mathlib.Core.Path.{◌≡◌}
use mathlib.Core.List.{List}
use Prim.Native.Nat.{ℕ, ◌≤◌}
use native.Mathlib.Omega.{arith}
use lib.ListN.{length}
use Rattle.chain.specs.declared.Step.{Step}
use Rattle.products.specs.Inner.{steps_in, StepsStored}
use Rattle.products.specs.declared.Progress.{Progress}
use Rattle.products.proofs.Sound.{Begins, begins_length}
use Rattle.methods.specs.Inner.{ChainRoom, ChainStored, PayslipsRoom}
use Rattle.methods.proofs.Paying.{begin_room, payslips_room, chain_stored, paid_begins}
use Rattle.groups.specs.declared.Grouping.{Grouping}
use Rattle.groups.specs.Groups.{most_inputs, sheet_tables}
use Rattle.groups.specs.Inner.{Grouped, GroupedFor, GroupsMade, GroupsRoom}
use Rattle.groups.proofs.Measured.{groups_room, sheet_stored}
use Rattle.partition_emit.specs.Inner.{payslip_of, payslips_of}
use Rattle.partition.specs.Partition.{partition, partition_count}
use Rattle.partition.proofs.Partition.{partition_count_lem}
use Rattle.partition_emit.proofs.Paying.{payslip_begins}

-- a grouped sheet and room for its chain
module _ {s : Grouping} {amounts bits : List ℕ} (grouped : Grouped s amounts bits) {old outputs : List ℕ}
    (fits : ChainRoom s.q (partition_count s.p s.q amounts s.c) old outputs) where
  abbrev tables : List Step
  tables = sheet_tables s.p s.q amounts s.c

  counted : length (payslips_of s amounts tables).steps ≡ partition_count s.p s.q amounts s.c
  unfolding partition
  counted = partition_count_lem s.p s.q amounts s.c

  each : (i : ℕ) (before : List Step) → Begins before (payslip_of s amounts i before).steps
  each = payslip_begins s.p s.q amounts s.c

  -- the squarings and the tables
  pub begin_fits : (members : List ℕ) → most_inputs ≤ length members → GroupsRoom s bits members old
  begin_fits members room =
      let rise = begins_length (paid_begins (payslip_of s amounts) tables each 0 s.q (omega arith)) in
      groups_room grouped members old room (omega (arith, counted, fits.short))
      (begin_room (payslip_of s amounts) each tables s.q grouped.cuts.columns fits counted)

  -- the payslips
  module _ {members₀ members cells : List ℕ} {r : Progress} (made : GroupsMade s bits members₀ old members cells r) where
    tabled : StepsStored old cells r tables
    tabled = sheet_stored grouped made

    pub slips_room : PayslipsRoom s.p s.q cells r (payslips_of s amounts (steps_in cells r.steps)).steps outputs
    slips_room = payslips_room (payslip_of s amounts) each tables s.q grouped.cuts.columns fits counted tabled

    pub chain_whole : {cells' outputs' : List ℕ} {r' : Progress} → ChainStored cells outputs cells' outputs' r' (payslips_of s amounts (steps_in cells r.steps))
        → ChainStored old outputs cells' outputs' r' (partition s.p s.q amounts s.c)
    unfolding partition
    chain_whole stored = chain_stored (payslip_of s amounts) each tables s.q tabled stored

-- a sheet's grouping stands for what was given
module _ {p q : ℕ} {amounts : List ℕ} {c : ℕ} {bits : List ℕ} {s : Grouping} (told : GroupedFor p q amounts c bits s) where
  pub room_given : {steps outputs : List ℕ} → ChainRoom q (partition_count p q amounts c) steps outputs
      → ChainRoom s.q (partition_count s.p s.q amounts s.c) steps outputs
  room_given room = rw (told.same_p, told.same_q, told.same_c) room
