-- Clumps laid as rows: the keys stand before the rows, so each is what it was, and the room is for all the rows, those to come among them.
use mathlib.Core.Path.{◌≡◌, refl, ap, subst, ◌∙◌}
use mathlib.Core.List.{List}
use Prim.Native.Nat.{ℕ, suc, ◌+◌, ◌≤◌, ◌<◌}
use native.Mathlib.Omega.{arith}
use lib.ListN.{length, get_or, set, length-set}
use lib.Seq.{get_or-set_same, get_or-set_other}
use Rattle.chain.specs.Written.{laid as laid_at}
use Rattle.digits.proofs.Range.{sum_more, sum_same}
use Rattle.digits.proofs.Listed.{list_same}
use Rattle.rows.specs.Inner.{RowsLaid, RowsOver}
use Rattle.rows.proofs.Laying.{over_more, over_all}
use Rattle.keys.specs.Inner.{clump_of, clump_in, ClumpAsked, NumbersLaid, ClumpsAsked, ClumpsLaid}

module _ (s : List ℕ) (keys k a to : ℕ) (asked : ClumpsAsked s keys k a to) where
  abbrev f : ℕ → List ℕ
  f j = clump_in a s (keys + j)

  module _ (j e : ℕ) (cells : List ℕ) (d : RowsOver to k j e f s cells) (h : j < k) (key : ℕ) (is : key ≡ get_or cells (keys + j) 0) where
    key_is : key ≡ get_or s (keys + j) 0
    key_is = is ∙ d.apart.before (keys + j) (omega (arith, asked.before))

    pub row_room : e + length (f j) ≤ length cells
    row_room =
        let more = sum_more (λ i. length (f i)) (suc j) k h in
        omega (arith, d.end, d.apart.size, asked.room)

    pub row_asked : ClumpAsked cells key a e
    row_asked =
        rw key_is
        (record { some = asked.some; few = asked.few; small = asked.small j h; room = row_room })

    module _ (end : ℕ) (new : List ℕ) (laid : NumbersLaid e end (clump_of a key) cells new) where
      own : clump_of a key ≡ f j
      own = ap (clump_of a) key_is

      pub row_end : end ≡ e + length (f j)
      row_end = laid.end ∙ ap (λ (l : List ℕ). e + length l) own

      pub row_on : RowsOver to k (j + 1) end f s (set new (to + j + 1) end)
      row_on =
          rw row_end (over_more to k f j e s cells new d h (laid.are ∙ ap (λ (l : List ℕ). laid_at e l cells) own) row_room)

  -- with their first place stored before
  abbrev first : List ℕ
  first = set s to (to + k + 1)

  first_key : (j : ℕ) → j < k → get_or first (keys + j) 0 ≡ get_or s (keys + j) 0
  first_key j h = get_or-set_other s to (keys + j) (to + k + 1) 0 (λ q. omega (arith, asked.before))

  first_clump : (j : ℕ) → j < k → clump_in a first (keys + j) ≡ f j
  first_clump j h = ap (clump_of a) (first_key j h)

  pub first_asked : ClumpsAsked first keys k a to × (get_or first to 0 ≡ to + k + 1)
  first_asked = (
    record {
      some = asked.some;
      few = asked.few;
      before = asked.before;
      small = λ j h. rw (first_key j h) (asked.small j h);
      room = omega (arith, asked.room, length-set s to (to + k + 1), sum_same k _ _ (λ j h. ap length (first_clump j h)));
      fits = rw (length-set s to (to + k + 1)) asked.fits;
    },
    get_or-set_same s to (to + k + 1) 0 (omega (arith, asked.room)),
  )

  pub clumps_laid : (e : ℕ) (new : List ℕ) → RowsOver to k k e (λ j. clump_in a first (keys + j)) first new → ClumpsLaid keys k a to e s new
  clumps_laid e new d =
      record {
        laid = subst (λ (l : List (List ℕ)). RowsLaid to e l s new) (list_same k _ f first_clump) (over_all to k _ e s first new refl d);
        end = d.end ∙ ap (λ (n : ℕ). to + k + 1 + n) (sum_same k _ _ (λ j h. ap length (first_clump j h)));
      }
