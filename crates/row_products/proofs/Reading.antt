-- A row and the values that it names are read in a slice where their cells are as they were at first: so the product asks no more than room in front, and
-- its factors are those of the first slice.
use mathlib.Core.Path.{◌≡◌, sym, ap, ◌∙◌}
use mathlib.Core.List.{List}
use Prim.Native.Nat.{ℕ, ◌+◌, ◌*◌, ◌≤◌, ◌<◌}
use native.Mathlib.Omega.{arith}
use lib.ListN.{length, get_or, drop}
use lib.Seq.{slice, get_or-drop}
use Rattle.chain.specs.Chain.{most_columns, pick}
use Rattle.chain.proofs.Picked.{pick_same}
use Rattle.products.specs.Inner.{SoFar}
use Rattle.products.specs.declared.Progress.{Progress}
use Rattle.rows.specs.Inner.{members_at, row_at}
use Rattle.rows.proofs.Lists.{slice_cell}
use Rattle.rows.proofs.Rows.{place_above, place_below, row_inside, row_long, row_kept}
use Rattle.row_products.specs.Inner.{values_at, lists_from, PlacesAt, RowAsked}

module _ (old : List ℕ) (at m n : ℕ) (rows : PlacesAt old at m n) where
  -- where row j begins
  abbrev place_of : ℕ → ℕ
  place_of j = get_or old (at + j) 0

  place_next : (j : ℕ) → get_or old (at + (j + 1)) 0 ≡ get_or old (at + j + 1) 0
  place_next j = let e : at + (j + 1) ≡ at + j + 1 = omega arith in ap (λ (c : ℕ). get_or old c 0) e

  -- row j has as many numbers as there are cells from its place to the next
  pub row_adds : (j : ℕ) → j < m → length (row_at old at j) + place_of j ≡ place_of (j + 1)
  row_adds j h = omega (arith, row_long old at m _ rows.formed j h, rows.formed.rises j h, place_next j)

  -- so the first j rows together have no more than all
  pub rows_few : (j : ℕ) → j ≤ m → place_of j ≤ place_of 0 + members_at old at m
  rows_few j h = omega (arith, place_below old at m _ rows.formed j h, place_above old at m _ rows.formed 0 (omega arith))

  module _ (values : ℕ) (s : List ℕ) (size : length s ≡ length old) (same : (c : ℕ) → at ≤ c → c < get_or old (at + m) 0 → get_or s c 0 ≡ get_or old c 0) (j : ℕ)
      (less : j < m) where
    inside : at + m + 1 ≤ get_or old (at + m) 0
    inside = place_above old at m _ rows.formed m (omega arith)

    starts : get_or s (at + j) 0 ≡ get_or old (at + j) 0
    starts = same (at + j) (omega arith) (omega (arith, inside))

    ends : get_or s (at + j + 1) 0 ≡ get_or old (at + j + 1) 0
    ends = same (at + j + 1) (omega arith) (omega (arith, inside))

    pub row_asked : (p : ℕ) (r : Progress) → SoFar s r → p ≤ most_columns → lists_from ≤ at → lists_from ≤ values → values + n ≤ length old
        → 2 * (r.steps + length (row_at old at j)) ≤ lists_from → RowAsked p s r values at j
    row_asked p r so_far columns rows_behind values_behind values-inside room =
        let between = row_inside old at m _ rows.formed j less in
        let long = row_long old at m _ rows.formed j less in
        let up = rows.formed.rises j less in
        let end = rows.formed.inside in
        record {
          there = omega (arith, inside);
          asked =
              rw (starts, ends)
              (record {
                so_far = so_far;
                rises = up;
                inside = omega (arith, between.1);
                before_places = omega (arith, between.0);
                before_values = omega arith;
                there = λ i h g.
                    omega (
                      arith,
                      same i (omega (arith, between.0)) (omega (arith, between.1)),
                      rows.low i (omega (arith, between.0)) (omega (arith, between.1)),
                    );
                numbers_fit = omega arith;
              });
        }

    low : (i : ℕ) → i < length (row_at old at j) → get_or (row_at old at j) i 0 < n
    unfolding row_at
    low i h =
        let between = row_inside old at m _ rows.formed j less in
        let long = row_long old at m _ rows.formed j less in
        let start : ℕ = get_or old (at + j) 0 in
        omega (
          arith,
          slice_cell start (get_or old (at + j + 1) 0) old i (omega arith),
          rows.low (start + i) (omega (arith, between.0)) (omega (arith, between.1)),
        )

    pub row_values : ((c : ℕ) → values ≤ c → c < values + n → get_or s c 0 ≡ get_or old c 0)
        → values_at s values (row_at s at j) ≡ pick (slice values (values + n) old) (row_at old at j)
    row_values same-values =
        ap (values_at s values) (row_kept old at m _ rows.formed s same (omega (arith, rows.formed.inside)) j less)
        ∙ pick_same (drop values s) (slice values (values + n) old) (row_at old at j) value
      where
        value : (i : ℕ) → i < length (row_at old at j)
            → get_or (drop values s) (get_or (row_at old at j) i 0) 0 ≡ get_or (slice values (values + n) old) (get_or (row_at old at j) i 0) 0
        value i h =
            let x : ℕ = get_or (row_at old at j) i 0 in
            get_or-drop values s x 0
            ∙ same-values (values + x) (omega arith) (omega (arith, low i h))
            ∙ sym (slice_cell values (values + n) old x (omega (arith, low i h)))
