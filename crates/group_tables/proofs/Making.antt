-- Squarings, then tables: the squarings begin what is to be stored, and the inputs read back from their cells are those that the tables are made of.
use mathlib.Core.Path.{◌≡◌, sym, ap, ap₂, ◌∙◌}
use mathlib.Core.List.{List}
use Prim.Native.Nat.{ℕ, ◌<◌}
use native.Mathlib.Omega.{arith}
use lib.ListN.{length, get_or, take}
use Rattle.chain.specs.Written.{over}
use Rattle.chain.proofs.Written.{take-over}
use Rattle.products.specs.Inner.{steps_in, begun, StepsRoom, StepsStored}
use Rattle.products.specs.declared.Progress.{Progress}
use Rattle.products.proofs.Sound.{Begins, begins_own, begins_length}
use Rattle.products.proofs.Emitted.{stored_is, stored_on, stored_room}
use Rattle.methods.specs.Powers.{counts_of, squarings, power_of}
use Rattle.methods.proofs.Columns.{squarings_same}
use Rattle.groups.specs.declared.Grouping.{Grouping}
use Rattle.methods.proofs.Filling.{filled_front, filled-length}
use Rattle.digits.specs.Range.{list_to}
use Rattle.digits.proofs.Listed.{get_d_list}
use Rattle.groups.specs.Inner.{GroupsMade, GroupsRoom, InputsRoom, TablesRoom, bit_inputs, bit_squarings, bit_tables, bits_less}
use Rattle.groups.specs.Inner.{tables_after}
use Rattle.groups.proofs.Inputs.{length_over}
use Rattle.group_tables.proofs.Tabling.{tables_begin}

-- how often each column is squared, in the front of cells
module _ (bits old cells : List ℕ) (e : cells ≡ over (list_to (length bits) (bits_less bits 1)) old) where
  pub counted_long : length bits ≡ length (take (length bits) cells)
  counted_long = filled-length (bits_less bits 1) old (length bits) cells e

  pub counted_squarings : squarings (length bits) (counts_of (take (length bits) cells)) (length (take (length bits) cells)) ≡ bit_squarings bits
  counted_squarings =
      let counts : List ℕ = take (length bits) cells in
      ap (squarings (length bits) (counts_of counts)) (sym counted_long)
      ∙ squarings_same (length bits) (counts_of counts) (bits_less bits 1) (length bits) at
    where
      at : (col : ℕ) → col < length bits → get_or (take (length bits) cells) col 0 ≡ bits_less bits 1 col
      at col h =
          ap (λ (l : List ℕ). get_or l col 0) (filled_front (bits_less bits 1) old (length bits) cells e)
          ∙ get_d_list (length bits) (bits_less bits 1) 0 col h

-- room for all of it
module _ {s : Grouping} {bits members₀ steps₀ : List ℕ} (room : GroupsRoom s bits members₀ steps₀) where
  abbrev own : List ℕ
  own = bit_inputs bits (length bits)

  own_long : length own ≡ s.inputs
  own_long = length_over (counts_of bits) (power_of (length bits) (bits_less bits 1)) (length bits) ∙ room.bits_sum

  begins : Begins (bit_squarings bits) (bit_tables s bits)
  begins = tables_begin s.p s.c own (bit_squarings bits) 0 s.groups (omega arith)

  pub inputs_room : InputsRoom bits members₀
  inputs_room =
      let columns = room.cuts.columns in
      let few = room.cuts.inputs_few in
      record { columns = omega (arith, room.bits_long); few = omega (arith, room.bits_sum); room = room.members_room }

  pub squares_room : StepsRoom (length bits) steps₀ begun (bit_squarings bits)
  squares_room =
      let w = room.steps_room in
      let longer = begins_length begins in
      record { so_far = w.so_far; cells_hold = omega (arith, w.cells_hold); numbers_fit = omega (arith, w.numbers_fit, room.bits_long) }

  -- the tables, from the inputs in their cells
  module _ {members : List ℕ} (e : members ≡ over (bit_inputs bits (length bits)) members₀) where
    listed : take s.inputs members ≡ own
    listed = ap (take s.inputs) e ∙ take-over s.inputs own members₀ own_long

    pub listed_long : s.inputs ≡ length (take s.inputs members)
    listed_long = sym (ap length listed ∙ own_long)

    module _ {steps : List ℕ} {first : Progress} (st : StepsStored steps₀ steps first (bit_squarings bits)) where
      tables_are : tables_after s (take s.inputs members) (steps_in steps first.steps) ≡ bit_tables s bits
      tables_are = ap₂ (tables_after s) listed (stored_is st)

      pub tables_room : TablesRoom s (take s.inputs members) steps first
      tables_room =
          record {
            cuts = room.cuts;
            long = sym listed_long;
            few = rw tables_are room.few;
            room = rw tables_are (stored_room room.steps_room st begins (begins_own (bit_tables s bits)));
          }

      pub groups_made : {steps' : List ℕ} {r : Progress} → StepsStored steps steps' r (tables_after s (take s.inputs members) (steps_in steps first.steps))
          → GroupsMade s bits members₀ steps₀ members steps' r
      groups_made st' = record { members_are = e; stored = stored_on st begins (rw tables_are at st') }
