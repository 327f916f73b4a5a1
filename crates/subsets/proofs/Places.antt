-- A group is a stretch of the inputs, and the tables before it are full, so its table begins at a place told by the group's number.
use mathlib.Core.Path.{◌≡◌, sym, ap, ◌∙◌}
use mathlib.Core.List.{List}
use Prim.Native.Nat.{ℕ, zero, suc, ◌+◌, ◌-◌, ◌*◌, ◌^◌, ◌≤◌, ◌<◌, min}
use native.Mathlib.Decide.{dec_le}
use native.Mathlib.Nat.{suc-mul, mul-le-mul_left, mul-le-mul_right}
use native.Mathlib.Omega.{arith}
use lib.ListN.{length, take, drop, length-drop}
use lib.Pow.{pow_mono}
use lib.Seq.{take_all}
use Rattle.chain.specs.Chain.{most_columns}
use Rattle.chain.specs.declared.Step.{Step}
use Rattle.digits.specs.Range.{sum_to}
use Rattle.digits.proofs.Range.{sum_same}
use Rattle.groups.specs.declared.Grouping.{Grouping}
use Rattle.groups.specs.Groups.{group, group_size, group_tables, most_inputs, most_members, table_steps}
use Rattle.groups.specs.Inner.{Cuts, PartOf, table_at}
use Rattle.groups.proofs.Counting.{group_inside}
use Rattle.groups.proofs.Groups.{length-group}
use Rattle.groups.proofs.Tables.{tables_count_lem}

-- a group is the part of the inputs from its first member on
abbrev pub stretch : ℕ → ℕ → List ℕ → List ℕ
stretch from to l = take (to - from) (drop from l)

pub stretch_is : (c : ℕ) (l : List ℕ) (g size : ℕ) → size ≡ group_size c (length l) g → stretch (g * c) (g * c + size) l ≡ group c g l
stretch_is c l g size is =
    let n : g * c + size - g * c ≡ min c (length (drop (g * c) l)) = omega (arith, length-drop (g * c) l) in
    ap (λ (k : ℕ). take k (drop (g * c) l)) n ∙ by_size (drop (g * c) l) (dec_le c (length (drop (g * c) l)))
  where
    by_size : (m : List ℕ) → Dec (c ≤ length m) → take (min c (length m)) m ≡ take c m
    by_size m (yes le) = let e : min c (length m) ≡ c = omega arith in ap (λ (k : ℕ). take k m) e
    by_size m (no gt) = take_all (min c (length m)) m (omega arith) ∙ sym (take_all c m (omega arith))

module _ (c g : ℕ) (l : List ℕ) (few : c ≤ most_members) where
  pub group_small : length (group c g l) ≤ most_members
  group_small = omega (arith, length-group c g l)

  pub group_parts : 2 ^ (1 * length (group c g l)) ≤ 2 ^ most_members
  group_parts = pow_mono {j = most_members} (omega (arith, group_small))

-- where group g of a grouping is
module _ (s : Grouping) (cuts : Cuts s) (members : List ℕ) (long : length members ≡ s.inputs) (g size : ℕ) (h : g < s.groups)
    (is : size ≡ group_size s.c s.inputs g) where
  pub starts : g * s.c ≤ s.inputs
  starts = group_inside s.c s.inputs g s.groups cuts.some cuts.groups_are h

  pub ends : g * s.c + size ≤ length members
  ends = omega (arith, starts)

  pub own_members : stretch (g * s.c) (g * s.c + size) members ≡ group s.c g members
  own_members = stretch_is s.c members g size (rw long is)

-- the number before a group's first step: the groups before it are full
sum-all : (n a : ℕ) → sum_to n (λ e. a) ≡ n * a
sum-all zero a = omega arith
sum-all (suc n) a = rw (suc-mul n a) (omega (arith, sum-all n a))

tables_full : (p c : ℕ) (members : List ℕ) (start : List Step) (g : ℕ) → g * c ≤ length members
    → length (group_tables p c members start g) ≡ length start + g * table_steps c
tables_full p c members start g h =
    tables_count_lem p c members start g
    ∙ ap (λ (n : ℕ). length start + n) (sum_same g _ (λ e. table_steps c) (λ e k. ap table_steps (full e k)) ∙ sum-all g (table_steps c))
  where
    full : (e : ℕ) → e < g → group_size c (length members) e ≡ c
    full e k =
        let wide : suc e * c ≤ g * c = mul-le-mul_right c k in
        omega (arith, suc-mul e c)

pub table_place : (s : Grouping) → Cuts s → (members : List ℕ) (start : List Step) → length members ≡ s.inputs → length start ≡ s.squarings → (g : ℕ)
    → g < s.groups → s.p + length (group_tables s.p s.c members start g) + 1 ≡ table_at s g
table_place s cuts members start long first g h =
    let inside = group_inside s.c s.inputs g s.groups cuts.some cuts.groups_are h in
    omega (arith, tables_full s.p s.c members start g (omega arith))

-- those numbers are small, r being the steps of a full table
abbrev pub parts_end : ℕ
parts_end = most_columns + most_inputs + most_inputs * 2 ^ most_members + 2

module _ (s : Grouping) (cuts : Cuts s) (g r : ℕ) (h : g < s.groups) (few : r ≤ 2 ^ most_members) where
  tables_low : g * r ≤ most_inputs * 2 ^ most_members
  tables_low =
      let groups = cuts.groups_few in
      let more : g * r ≤ g * 2 ^ most_members = mul-le-mul_left g few in
      let below : g ≤ most_inputs = omega arith in
      let wide : g * 2 ^ most_members ≤ most_inputs * 2 ^ most_members = mul-le-mul_right (2 ^ most_members) below in
      omega arith

  pub product_fits : g * r < parts_end
  product_fits = omega (arith, tables_low)

  pub sum_fits : s.p + s.squarings + g * r < parts_end
  sum_fits =
      let columns = cuts.columns in
      let first = cuts.squarings_few in
      omega (arith, tables_low)

  pub number_fits : s.p + s.squarings + g * r + 1 < parts_end
  number_fits =
      let columns = cuts.columns in
      let first = cuts.squarings_few in
      omega (arith, tables_low)

-- the entry of part t in a group
module _ {s : Grouping} {members : List ℕ} {g t : ℕ} (part : PartOf s members g t) {size : ℕ} (is : size ≡ group_size s.c s.inputs g) where
  abbrev mine : List ℕ
  mine = stretch (g * s.c) (g * s.c + size) members

  mine_is : mine ≡ group s.c g members
  mine_is = own_members s part.cuts members part.long g size part.inside is

  pub entry_low : t < 2 ^ (1 * length mine)
  entry_low = rw mine_is part.part

  pub entry_number : {at : ℕ} → at < parts_end → at + t < 2 ^ 32
  entry_number h = let low = part.part in omega (arith, group_parts s.c g members part.cuts.few)
