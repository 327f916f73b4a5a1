-- A group's table is appended to those of the groups before it, and there is room for it because all of them have it.
use mathlib.Core.Path.{◌≡◌, ap, ap₂, ◌∙◌}
use mathlib.Core.List.{List, ◌++◌}
use Prim.Native.Nat.{ℕ, suc, ◌+◌, ◌*◌, ◌^◌, ◌≤◌, ◌<◌}
use native.Mathlib.Nat.{one-mul}
use native.Mathlib.Numerals.{add-one}
use native.Mathlib.Omega.{arith}
use lib.ListN.{length}
use Rattle.chain.specs.declared.Step.{Step}
use Rattle.products.specs.Inner.{steps_in, StepsRoom, StepsStored}
use Rattle.products.specs.declared.Progress.{Progress}
use Rattle.products.proofs.Sound.{Begins, begins_more, begins_rise, begins_length}
use Rattle.products.proofs.Emitted.{stored_is, stored_on, stored_room}
use Rattle.tables.specs.Table.{table}
use Rattle.tables.specs.Inner.{TableAsked}
use Rattle.groups.specs.declared.Grouping.{Grouping}
use Rattle.groups.specs.Groups.{group, group_size, group_tables}
use Rattle.groups.specs.Inner.{TablesRoom}
use Rattle.subsets.proofs.Places.{group_parts, group_small, own_members, stretch}

pub tables_begin : (p c : ℕ) (members : List ℕ) (start : List Step) (g G : ℕ) → g ≤ G
    → Begins (group_tables p c members start g) (group_tables p c members start G)
tables_begin p c members start = begins_rise (group_tables p c members start) (λ g. begins_more (group_tables p c members start g) _)

-- the table of group g, after those of the groups before
module _ {s : Grouping} {members old : List ℕ} {r : Progress} (room : TablesRoom s members old r) (g : ℕ) (h : g < s.groups) {size : ℕ}
    (is : size ≡ group_size s.c s.inputs g) where
  abbrev own : List ℕ
  own = stretch (g * s.c) (g * s.c + size) members

  abbrev made : ℕ → List Step
  made = group_tables s.p s.c members (steps_in old r.steps)

  own_is : own ≡ group s.c g members
  own_is = own_members s room.cuts members room.long g size h is

  module _ {cells : List ℕ} {end : Progress} (st : StepsStored old cells end (group_tables s.p s.c members (steps_in old r.steps) g)) where
    abbrev longer : List Step
    longer = steps_in cells end.steps ++ table 1 own (s.p + end.steps + 1) (2 ^ (1 * length own))

    next_is : longer ≡ made (suc g)
    next_is =
        let grp : List ℕ = group s.c g members in
        ap (λ (l : List ℕ). steps_in cells end.steps ++ table 1 l (s.p + end.steps + 1) (2 ^ (1 * length l))) own_is
        ∙ ap (λ (k : ℕ). steps_in cells end.steps ++ table 1 grp (s.p + end.steps + 1) (2 ^ k)) (one-mul (length grp))
        ∙ ap₂ (λ (l : List Step) (k : ℕ). l ++ table 1 grp (s.p + k + 1) (2 ^ length grp)) (stored_is st) st.count

    rise : (k : ℕ) → k ≤ s.groups → Begins (made k) (made s.groups)
    rise k = tables_begin s.p s.c members (steps_in old r.steps) k s.groups

    pub table_room : StepsRoom s.p cells end longer
    table_room = rw next_is (stored_room room.room st (begins_more (made g) _) (rise (suc g) h))

    pub table_on : {cells' : List ℕ} {end' : Progress} → StepsStored cells cells' end' longer → StepsStored old cells' end' (made (g + 1))
    table_on t = let u = rw next_is at t in rw (add-one g) (stored_on st (begins_more (made g) _) u)

    pub table_asked : TableAsked s.p 1 own end.steps
    table_asked =
        let columns = room.cuts.columns in
        let few = room.cuts.few in
        let low = room.few in
        let long = begins_length (rise g (omega arith)) in
        record {
          k_some = omega arith;
          k_low = omega arith;
          places_low = omega (arith, ap length own_is, group_small s.c g members few);
          numbers_low = rw own_is (omega (arith, group_parts s.c g members few, st.count));
        }
