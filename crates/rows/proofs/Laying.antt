-- Rows laid one after the other: one more stands from the end of those so far on, and the cell of its place names where it ends.
use mathlib.Core.Path.{◌≡◌, refl, ap, ap₂, ◌∙◌}
use mathlib.Core.List.{List}
use Prim.Native.Nat.{ℕ, suc, ◌+◌, ◌≤◌, ◌<◌}
use native.Mathlib.Decide.{ℕ_discrete}
use native.Mathlib.Omega.{arith}
use lib.ListN.{length, get_or, set, length-set}
use lib.Seq.{slice, get_or-set_same, get_or-set_other}
use Rattle.chain.specs.Written.{laid}
use Rattle.chain.proofs.Written.{laid-length}
use Rattle.digits.specs.Range.{list_to}
use Rattle.digits.proofs.Listed.{length-list, list_same}
use Rattle.rows.specs.Inner.{row_at, rows_at, Formed, RowsLaid, RowsTo, RowsOver}
use Rattle.rows.proofs.Lists.{slice_is, slice_same}
use Rattle.rows.proofs.Laid.{cell_before, cell_within, cell_behind}

module _ (at m : ℕ) (f : ℕ → List ℕ) where
  pub rows_none : (s : List ℕ) → get_or s at 0 ≡ at + m + 1 → at + m + 1 ≤ length s → RowsTo at m 0 (at + m + 1) f s
  rows_none s own h =
      record {
        some = omega arith;
        first = own;
        last = only 0 (omega arith);
        inside = h;
        rises = λ i g. absurd (omega arith);
        between = λ i g. (omega (arith, only i g), omega (arith, only i g));
        are = λ i g. absurd (omega arith);
      }
    where
      only : (i : ℕ) → i ≤ 0 → get_or s (at + i) 0 ≡ at + m + 1
      only i g = let q : at + i ≡ at = omega arith in ap (λ (c : ℕ). get_or s c 0) q ∙ own

  pub rows_more : (j e end : ℕ) (s new : List ℕ) → RowsTo at m j e f s → j < m → ((c : ℕ) → at ≤ c → c < e → get_or new c 0 ≡ get_or s c 0)
      → e ≤ end → end ≤ length new → slice e end new ≡ f j → RowsTo at m (j + 1) end f (set new (at + j + 1) end)
  unfolding row_at
  rows_more j e end s new d h same rises inside is =
      record {
        some = omega arith;
        first = kept at (omega arith) (omega (arith, d.between 0 (omega arith))) (omega arith) ∙ d.first;
        last = own_place;
        inside = rw (length-set new (at + j + 1) end) inside;
        rises = λ i g. by_place_rises i g (ℕ_discrete i j);
        between = λ i g. by_place_between i g (ℕ_discrete i (j + 1));
        are = λ i g. by_place i g (ℕ_discrete i j);
      }
    where
      t : List ℕ
      t = set new (at + j + 1) end

      head : at + m + 1 ≤ e
      head = omega (arith, d.between 0 (omega arith))

      kept : (c : ℕ) → at ≤ c → c < e → (c ≡ at + j + 1 → ⊥) → get_or t c 0 ≡ get_or s c 0
      kept c a b ne = get_or-set_other new (at + j + 1) c end 0 ne ∙ same c a b

      own_place : get_or t (at + (j + 1)) 0 ≡ end
      own_place =
          let q : at + (j + 1) ≡ at + j + 1 = omega arith in
          ap (λ (c : ℕ). get_or t c 0) q ∙ get_or-set_same new (at + j + 1) end 0 (omega (arith, head))

      own_end : get_or t (at + j + 1) 0 ≡ end
      own_end = get_or-set_same new (at + j + 1) end 0 (omega (arith, head))

      place : (i : ℕ) → i ≤ j → get_or t (at + i) 0 ≡ get_or s (at + i) 0
      place i g = kept (at + i) (omega arith) (omega (arith, head)) (λ q. omega arith)

      next : (i : ℕ) → i < j → get_or t (at + i + 1) 0 ≡ get_or s (at + i + 1) 0
      next i g = kept (at + i + 1) (omega arith) (omega (arith, head)) (λ q. omega arith)

      by_place_rises : (i : ℕ) → i < j + 1 → Dec (i ≡ j) → get_or t (at + i) 0 ≤ get_or t (at + i + 1) 0
      by_place_rises i g (yes q) =
          rw q (omega (arith, place j (omega arith), d.last, own_end))
      by_place_rises i g (no ne) = omega (arith, place i (omega arith), next i (omega arith), d.rises i (omega arith))

      by_place_between : (i : ℕ) → i ≤ j + 1 → Dec (i ≡ j + 1) → (at + m + 1 ≤ get_or t (at + i) 0) × (get_or t (at + i) 0 ≤ end)
      by_place_between i g (yes q) = rw q (omega (arith, own_place, head), omega (arith, own_place))
      by_place_between i g (no ne) =
          (omega (arith, place i (omega arith), d.between i (omega arith)), omega (arith, place i (omega arith), d.between i (omega arith)))

      by_place : (i : ℕ) → i < j + 1 → Dec (i ≡ j) → row_at t at i ≡ f i
      by_place i g (yes q) =
          rw q
          (ap₂ (λ (a b : ℕ). slice a b t) (place j (omega arith) ∙ d.last) own_end
          ∙ slice_same e end t new (rw (length-set new (at + j + 1) end) inside) inside (λ c a b. get_or-set_other new (at + j + 1) c end 0 (λ r. omega (arith, head)))
          ∙ is)
      by_place i g (no ne) =
          let low = d.between i (omega arith) in
          let high : get_or s (at + i + 1) 0 ≤ e = to_end (d.between (i + 1) (omega arith)).1 in
          ap₂ (λ (a b : ℕ). slice a b t) (place i (omega arith)) (next i (omega arith))
          ∙ slice_same (get_or s (at + i) 0) (get_or s (at + i + 1) 0) t s (rw (length-set new (at + j + 1) end) (omega (arith, high))) (omega (arith, high, d.inside))
          (λ c a b. kept c (omega (arith, low.0)) (omega (arith, high)) (λ r. omega (arith, low.0, d.some)))
          ∙ d.are i (omega arith)
        where
          to_end : get_or s (at + (i + 1)) 0 ≤ e → get_or s (at + i + 1) 0 ≤ e
          to_end h = let q : at + (i + 1) ≡ at + i + 1 = omega arith in rw q at h

  pub rows_all : (e : ℕ) (s : List ℕ) → RowsTo at m m e f s → Formed s at m e × (rows_at s at m ≡ list_to m f)
  rows_all e s d = (
    record { first = d.first; rises = d.rises; last = d.last; inside = d.inside },
    list_same m (row_at s at) f d.are,
  )

  -- the same where nothing else changes: each row is laid as it is
  pub over_none : (s : List ℕ) → get_or s at 0 ≡ at + m + 1 → at + m + 1 ≤ length s → RowsOver at m 0 (at + m + 1) f s s
  over_none s own h =
      record { rows = rows_none s own h; apart = record { size = refl; before = λ c g. refl; behind = λ c g. refl }; end = omega arith }

  pub over_more : (j e : ℕ) (old s new : List ℕ) → RowsOver at m j e f old s → j < m → new ≡ laid e (f j) s → e + length (f j) ≤ length s
      → RowsOver at m (j + 1) (e + length (f j)) f old (set new (at + j + 1) (e + length (f j)))
  over_more j e old s new d h is room =
      record {
        rows =
            rows_more j e (e + length (f j)) s new d.rows h (λ c a b. ap (λ (l : List ℕ). get_or l c 0) is ∙ cell_before e (f j) s room c b) (omega arith)
            (omega (arith, long))
            (slice_is e (e + length (f j)) new (f j) (omega (arith, long)) (omega arith) (λ i g. ap (λ (l : List ℕ). get_or l (e + i) 0) is ∙ cell_within e (f j) s room i g));
        apart =
            record {
              size = length-set new (at + j + 1) (e + length (f j)) ∙ long ∙ d.apart.size;
              before = λ c g. other c (λ q. omega arith) ∙ ap (λ (l : List ℕ). get_or l c 0) is ∙ cell_before e (f j) s room c (omega (arith, head)) ∙ d.apart.before c g;
              behind =
                  λ c g. other c (λ q. omega (arith, head)) ∙ ap (λ (l : List ℕ). get_or l c 0) is ∙ cell_behind e (f j) s room c g ∙ d.apart.behind c (omega arith);
            };
        end = let q : j + 1 ≡ suc j = omega arith in rw q (omega (arith, d.end));
      }
    where
      long : length new ≡ length s
      long = ap length is ∙ laid-length e (f j) s room

      head : at + m + 1 ≤ e
      head = omega (arith, d.rows.between 0 (omega arith))

      other : (c : ℕ) → (c ≡ at + j + 1 → ⊥) → get_or (set new (at + j + 1) (e + length (f j))) c 0 ≡ get_or new c 0
      other c ne = get_or-set_other new (at + j + 1) c (e + length (f j)) 0 ne

  -- all of them, the first place too
  pub over_all : (e : ℕ) (old s new : List ℕ) → s ≡ set old at (at + m + 1) → RowsOver at m m e f s new → RowsLaid at e (list_to m f) old new
  over_all e old s new is d =
      let all = rows_all e new d.rows in
      let long : length (list_to m f) ≡ m = length-list m f in
      record {
        apart =
            record {
              size = d.apart.size ∙ ap length is ∙ length-set old at (at + m + 1);
              before = λ c g. d.apart.before c g ∙ ap (λ (l : List ℕ). get_or l c 0) is ∙ get_or-set_other old at c (at + m + 1) 0 (λ q. omega arith);
              behind = λ c g. d.apart.behind c g ∙ ap (λ (l : List ℕ). get_or l c 0) is
                  ∙ get_or-set_other old at c (at + m + 1) 0 (λ q. omega (arith, d.rows.between 0 (omega arith)));
            };
        formed = rw long all.0;
        are = ap (rows_at new at) long ∙ all.1;
      }
