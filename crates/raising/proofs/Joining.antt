-- Rows of both kinds laid as one: they stand before the cells that are written, so each is what it was. The first rows of a kind have as many numbers as
-- lie between the first place and the place behind them, so the room is for all the rows, those to come among them.
use mathlib.Core.Path.{◌≡◌, refl, sym, ap, subst, ◌∙◌}
use mathlib.Core.Logic.{inl}
use mathlib.Core.List.{List, map}
use Prim.Native.Nat.{ℕ, zero, suc, ◌+◌, ◌-◌, ◌^◌, ◌≤◌, ◌<◌}
use native.Mathlib.Decide.{dec_lt}
use native.Mathlib.Omega.{arith}
use lib.ListN.{length, get_or, set, length-append, length-map, length-set}
use lib.Seq.{slice, ext_get_or, get_or-set_same, get_or-set_other}
use Rattle.chain.specs.Written.{laid as laid_at}
use Rattle.chain.proofs.Written.{laid_laid, laid-length}
use Rattle.digits.specs.Range.{sum_to}
use Rattle.digits.proofs.Range.{sum_more, sum_same}
use Rattle.digits.proofs.Listed.{list_same}
use Rattle.rows.specs.Inner.{row_at, Formed, Apart, RowsLaid, RowsOver}
use Rattle.rows.proofs.Lists.{slice_cell, slice_same}
use Rattle.rows.proofs.Laid.{cell_before, cell_within, cell_behind}
use Rattle.rows.proofs.Rows.{place_above, row_inside, row_long, row_kept, rows_kept}
use Rattle.rows.proofs.Laying.{over_more, over_all}
use Rattle.cuts.specs.Inner.{CopyAsked, Copied}
use Rattle.raising.specs.Inner.{raised_row, RaiseAsked, Raised, RowAsked, RowRaised}

-- what stands in the only cells that changed is laid there
laid_is : (r e : ℕ) (l old new : List ℕ) → Apart r e old new → e ≡ r + length l → e ≤ length old → slice r e new ≡ l → new ≡ laid_at r l old
laid_is r e l old new apart end inside is =
    ext_get_or 0 new (laid_at r l old) (apart.size ∙ sym (laid-length r l old room)) (λ c h. by_place c (dec_lt c r) (dec_lt c e))
  where
    room : r + length l ≤ length old
    room = omega arith

    by_place : (c : ℕ) → Dec (c < r) → Dec (c < e) → get_or new c 0 ≡ get_or (laid_at r l old) c 0
    by_place c (yes low) _ = apart.before c low ∙ sym (cell_before r l old room c low)
    by_place c (no ge) (no high) = apart.behind c (omega arith) ∙ sym (cell_behind r l old room c (omega arith))
    by_place c (no ge) (yes lt) =
        let q : c ≡ r + (c - r) = omega arith in
        ap (λ (i : ℕ). get_or new i 0) q
        ∙ sym (slice_cell r e new (c - r) (omega arith))
        ∙ ap (λ (t : List ℕ). get_or t (c - r) 0) is
        ∙ sym (cell_within r l old room (c - r) (omega arith))
        ∙ ap (λ (i : ℕ). get_or (laid_at r l old) i 0) (sym q)

module _ (s : List ℕ) (front back m k to : ℕ) (asked : RaiseAsked s front back m k to) where
  abbrev f : ℕ → List ℕ
  f j = raised_row s front back k j

  joined_long : (j : ℕ) → j < m
      → length (f j) ≡ get_or s (front + j + 1) 0 - get_or s (front + j) 0 + (get_or s (back + j + 1) 0 - get_or s (back + j) 0)
  joined_long j h =
      length-append (row_at s front j) (map (λ i. k + i) (row_at s back j))
      ∙ omega (arith, length-map (row_at s back j) (λ i. k + i), row_long s front m _ asked.front_formed j h, row_long s back m _ asked.back_formed j h)

  rows-sum : (j : ℕ) → j ≤ m → sum_to j (λ i. length (f i)) ≡ get_or s (front + j) 0 - (front + m + 1) + (get_or s (back + j) 0 - (back + m + 1))
  rows-sum zero h =
      let q : front + 0 ≡ front = omega arith in
      let p : back + 0 ≡ back = omega arith in
      rw (q, p) (omega (arith, asked.front_formed.first, asked.back_formed.first))
  rows-sum (suc j) h =
      let q : front + suc j ≡ front + j + 1 = omega arith in
      let p : back + suc j ≡ back + j + 1 = omega arith in
      rw (q, p)
      (omega (
        arith,
        rows-sum j (omega arith),
        joined_long j (omega arith),
        place_above s front m _ asked.front_formed j (omega arith),
        place_above s back m _ asked.back_formed j (omega arith),
        asked.front_formed.rises j (omega arith),
        asked.back_formed.rises j (omega arith),
      ))

  module _ (j e : ℕ) (cells : List ℕ) (d : RowsOver to m j e f s cells) (h : j < m) where
    head : to + m + 1 ≤ e
    head = omega (arith, d.end)

    -- the places are there
    pub there : (front + j + 1 < length cells) × (back + j + 1 < length cells)
    there = (
      omega (arith, place_above s front m _ asked.front_formed m (omega arith), asked.front_formed.inside, d.apart.size),
      omega (arith, place_above s back m _ asked.back_formed m (omega arith), asked.back_formed.inside, d.apart.size),
    )

    row_room : e + length (f j) ≤ length cells
    row_room =
        let more = sum_more (λ i. length (f i)) (suc j) m h in
        omega (arith, d.end, d.apart.size, asked.room, rows-sum m (omega arith))

    place_is : (at : ℕ) → Formed s at m (get_or s (at + m) 0) → get_or s (at + m) 0 ≤ to
        → (get_or cells (at + j) 0 ≡ get_or s (at + j) 0) × (get_or cells (at + j + 1) 0 ≡ get_or s (at + j + 1) 0)
    place_is at formed low =
        let above = place_above s at m _ formed m (omega arith) in
        (d.apart.before (at + j) (omega (arith, above)), d.apart.before (at + j + 1) (omega (arith, above)))

    front_is : (get_or cells (front + j) 0 ≡ get_or s (front + j) 0) × (get_or cells (front + j + 1) 0 ≡ get_or s (front + j + 1) 0)
    front_is = place_is front asked.front_formed asked.front_before

    back_is : (get_or cells (back + j) 0 ≡ get_or s (back + j) 0) × (get_or cells (back + j + 1) 0 ≡ get_or s (back + j + 1) 0)
    back_is = place_is back asked.back_formed asked.back_before

    row_is : (at : ℕ) → Formed s at m (get_or s (at + m) 0) → get_or s (at + m) 0 ≤ to
        → slice (get_or cells (at + j) 0) (get_or cells (at + j + 1) 0) cells ≡ row_at s at j
    unfolding row_at
    row_is at formed low =
        row_kept s at m _ formed cells (λ c a b. d.apart.before c (omega arith)) (omega (arith, formed.inside, d.apart.size)) j h

    pub copy_asked : CopyAsked cells (get_or cells (front + j) 0) (get_or cells (front + j + 1) 0) e
    copy_asked =
        let inside = row_inside s front m _ asked.front_formed j h in
        rw (front_is.0, front_is.1)
        (record {
          order = asked.front_formed.rises j h;
          inside = omega (arith, inside.1, asked.front_formed.inside, d.apart.size);
          room = omega (arith, row_room, joined_long j h);
          away = inl (omega (arith, inside.1, asked.front_before, head));
        })

    module _ (end : ℕ) (mid : List ℕ) (copied : Copied (get_or cells (front + j) 0) (get_or cells (front + j + 1) 0) e end cells mid) where
      mid_end : end ≡ e + (get_or s (front + j + 1) 0 - get_or s (front + j) 0)
      mid_end = omega (arith, copied.end, front_is.0, front_is.1)

      back_low : get_or s (back + j + 1) 0 ≤ to
      back_low = omega (arith, (row_inside s back m _ asked.back_formed j h).1, asked.back_before)

      pub raise_asked : RowAsked mid (get_or cells (back + j) 0) (get_or cells (back + j + 1) 0) k end
      raise_asked =
          let inside = row_inside s back m _ asked.back_formed j h in
          rw (back_is.0, back_is.1)
          (record {
            order = asked.back_formed.rises j h;
            before = omega (arith, back_low, head, mid_end);
            low = λ i a b. low_is i (omega (arith, inside.0)) (omega (arith, inside.1)) (omega (arith, back_low));
            room = omega (arith, row_room, joined_long j h, mid_end, copied.apart.size);
          })
        where
          low_is : (i : ℕ) → back + m + 1 ≤ i → i < get_or s (back + m) 0 → i < to → k + get_or mid i 0 < 2 ^ 32
          low_is i a b g = rw (copied.apart.before i (omega (arith, head)) ∙ d.apart.before i g) (asked.low i a b)

      module _ (last : ℕ) (new : List ℕ) (raised : RowRaised (get_or cells (back + j) 0) (get_or cells (back + j + 1) 0) k end last mid new) where
        row_end : last ≡ e + length (f j)
        row_end = omega (arith, raised.end, back_is.0, back_is.1, mid_end, joined_long j h)

        pub row_fits : (last < 2 ^ 32) × (to + j + 1 < length new)
        row_fits = (
          omega (arith, row_end, row_room, d.apart.size, asked.fits),
          omega (arith, row_room, head, raised.apart.size, copied.apart.size),
        )

        first_laid : mid ≡ laid_at e (row_at s front j) cells
        first_laid =
            laid_is e end (row_at s front j) cells mid copied.apart (omega (arith, mid_end, row_long s front m _ asked.front_formed j h))
            (omega (arith, mid_end, row_room, joined_long j h)) (copied.are ∙ row_is front asked.front_formed asked.front_before)

        abbrev behind : List ℕ
        behind = map (λ i. k + i) (row_at s back j)

        source_is : slice (get_or cells (back + j) 0) (get_or cells (back + j + 1) 0) mid ≡ row_at s back j
        source_is =
            slice_same (get_or cells (back + j) 0) (get_or cells (back + j + 1) 0) mid cells (omega (arith, back_is.1, back_low, head, row_room, copied.apart.size)) (omega (arith, back_is.1, back_low, head, row_room))
            (λ c a b. copied.apart.before c (omega (arith, back_is.1, back_low, head)))
            ∙ row_is back asked.back_formed asked.back_before

        second_laid : new ≡ laid_at end behind mid
        second_laid =
            laid_is end last behind mid new raised.apart
            (omega (arith, raised.end, back_is.0, back_is.1, length-map (row_at s back j) (λ i. k + i), row_long s back m _ asked.back_formed j h))
            (omega (arith, row_end, row_room, copied.apart.size)) (raised.are ∙ ap (map (λ i. k + i)) source_is)

        row_laid : new ≡ laid_at e (f j) cells
        row_laid =
            second_laid
            ∙ ap (laid_at end behind) first_laid
            ∙ laid_laid e end (row_at s front j) behind cells (omega (arith, mid_end, row_long s front m _ asked.front_formed j h)) (omega (arith, row_room))

        pub row_on : RowsOver to m (j + 1) last f s (set new (to + j + 1) last)
        row_on = rw row_end (over_more to m f j e s cells new d h row_laid row_room)

  -- with their first place stored before
  abbrev first : List ℕ
  first = set s to (to + m + 1)

  first_cell : (c : ℕ) → c < to → get_or first c 0 ≡ get_or s c 0
  first_cell c h = get_or-set_other s to c (to + m + 1) 0 (λ q. omega arith)

  first_long : length first ≡ length s
  first_long = length-set s to (to + m + 1)

  module _ (at : ℕ) (formed : Formed s at m (get_or s (at + m) 0)) (low : get_or s (at + m) 0 ≤ to) where
    first_end : get_or first (at + m) 0 ≡ get_or s (at + m) 0
    first_end = first_cell (at + m) (omega (arith, place_above s at m _ formed m (omega arith)))

    first_formed : Formed first at m (get_or first (at + m) 0)
    first_formed =
        rw first_end (rows_kept s at m _ formed first (λ c a b. first_cell c (omega arith)) (omega (arith, formed.inside, first_long))).0

    first_row : (j : ℕ) → j < m → row_at first at j ≡ row_at s at j
    first_row = row_kept s at m _ formed first (λ c a b. first_cell c (omega arith)) (omega (arith, formed.inside, first_long))

  first_raised : (j : ℕ) → j < m → raised_row first front back k j ≡ f j
  first_raised j h =
      rw (first_row front asked.front_formed asked.front_before j h, first_row back asked.back_formed asked.back_before j h)

  pub first_asked : RaiseAsked first front back m k to × (get_or first to 0 ≡ to + m + 1)
  first_asked =
      let front-end = first_end front asked.front_formed asked.front_before in
      let back_end = first_end back asked.back_formed asked.back_before in (
        record {
          front_formed = first_formed front asked.front_formed asked.front_before;
          back_formed = first_formed back asked.back_formed asked.back_before;
          front_before = rw front-end asked.front_before;
          back_before = rw back_end asked.back_before;
          low = λ i a b. low_is i a (omega (arith, back_end));
          room = omega (arith, front-end, back_end, first_long, asked.room);
          fits = rw first_long asked.fits;
        },
        get_or-set_same s to (to + m + 1) 0 (omega (arith, asked.room)),
      )
    where
      low_is : (i : ℕ) → back + m + 1 ≤ i → i < get_or s (back + m) 0 → k + get_or first i 0 < 2 ^ 32
      low_is i a b = rw (first_cell i (omega (arith, asked.back_before))) (asked.low i a b)

  pub rows_raised : (e : ℕ) (new : List ℕ) → RowsOver to m m e (raised_row first front back k) first new → Raised front back m k to e s new
  rows_raised e new d =
      record {
        laid = subst (λ (l : List (List ℕ)). RowsLaid to e l s new) (list_same m _ f first_raised) (over_all to m _ e s first new refl d);
        end = omega (arith, d.end, sum_same m _ _ (λ j h. ap length (first_raised j h)), rows-sum m (omega arith));
      }
