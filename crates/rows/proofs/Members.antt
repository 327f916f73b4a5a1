-- All numbers of some rows are the rows one after the other; and where each number of them was changed, so was each number of a row.
use mathlib.Core.Path.{◌≡◌, sym, ap, ◌∙◌}
use mathlib.Core.List.{List, ◌++◌, map}
use Prim.Native.Nat.{ℕ, zero, suc, ◌+◌, ◌-◌, ◌≤◌, ◌<◌}
use native.Mathlib.Omega.{arith}
use lib.ListN.{length, get_or, length-map}
use lib.Seq.{slice, length-slice, slice_empty}
use Rattle.clumps.specs.Lists.{joined}
use Rattle.clumps.proofs.Lists.{get_d_map_in}
use Rattle.rows.specs.Inner.{row_at, Formed}
use Rattle.rows.proofs.Lists.{slice_cell, slice_is, slice_split}
use Rattle.rows.proofs.Rows.{place_above, place_below}

module _ (s : List ℕ) (at m e : ℕ) (formed : Formed s at m e) where
  rows_so_far : (j : ℕ) → j ≤ m → slice (at + m + 1) (get_or s (at + j) 0) s ≡ joined j (row_at s at)
  unfolding row_at
  rows_so_far zero h =
      let q : at + 0 ≡ at = omega arith in
      ap (λ (t : ℕ). slice (at + m + 1) t s) (ap (λ (c : ℕ). get_or s c 0) q ∙ formed.first) ∙ slice_empty (at + m + 1) s
  rows_so_far (suc j) h =
      let q : at + suc j ≡ at + j + 1 = omega arith in
      let end : get_or s (at + suc j) 0 ≡ get_or s (at + j + 1) 0 = ap (λ (c : ℕ). get_or s c 0) q in
      ap (λ (t : ℕ). slice (at + m + 1) t s) end
      ∙ slice_split (at + m + 1) (get_or s (at + j) 0) (get_or s (at + j + 1) 0) s (place_above s at m e formed j (omega arith)) (formed.rises j (omega arith))
      (omega (arith, place_below s at m e formed (suc j) h, formed.inside, end))
      ∙ ap (λ (l : List ℕ). l ++ row_at s at j) (rows_so_far j (omega arith))

  pub rows_joined : slice (at + m + 1) e s ≡ joined m (row_at s at)
  rows_joined = ap (λ (t : ℕ). slice (at + m + 1) t s) (sym formed.last) ∙ rows_so_far m (omega arith)

-- a part of what was changed
pub part_changed : (f : ℕ → ℕ) (from to g h : ℕ) (old new : List ℕ) → to ≤ length old → to ≤ length new → from ≤ g → h ≤ to
    → slice from to new ≡ map f (slice from to old) → slice g h new ≡ map f (slice g h old)
part_changed f from to g h old new inside inside' low high is =
    slice_is g h new (map f (slice g h old)) (omega arith) (sym (length-map (slice g h old) f ∙ long)) (λ i k. cell i (omega (arith, length-map (slice g h old) f, long)))
  where
    long : length (slice g h old) ≡ h - g
    long = length-slice g h old (omega arith)

    all : length (slice from to old) ≡ to - from
    all = length-slice from to old inside

    cell : (i : ℕ) → i < h - g → get_or new (g + i) 0 ≡ get_or (map f (slice g h old)) i 0
    cell i k =
        let place : ℕ = g + i - from in
        let q : from + place ≡ g + i = omega arith in
        ap (λ (c : ℕ). get_or new c 0) (sym q)
        ∙ sym (slice_cell from to new place (omega arith))
        ∙ ap (λ (l : List ℕ). get_or l place 0) is
        ∙ get_d_map_in f (slice from to old) place 0 0 (omega (arith, all))
        ∙ ap f (slice_cell from to old place (omega arith) ∙ ap (λ (c : ℕ). get_or old c 0) q ∙ sym (slice_cell g h old i (omega arith)))
        ∙ sym (get_d_map_in f (slice g h old) i 0 0 (omega (arith, long)))
