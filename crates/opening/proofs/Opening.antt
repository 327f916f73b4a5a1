-- A level of outputs opened by three calls: the outputs of each input, laid behind the room for what they are cut into; their cut; and the places of their
-- clumps, transposed. What each call asks is there after the one before it.
use mathlib.Core.Path.{◌≡◌, refl, sym, ap, ap₂, subst, ◌∙◌}
use mathlib.Core.Logic.{inr}
use mathlib.Core.List.{List, []}
use Prim.Native.Nat.{ℕ, ◌+◌, ◌/◌, ◌^◌, ◌≤◌, ◌<◌}
use native.Mathlib.Omega.{arith}
use lib.ListN.{length, get_or}
use Rattle.digits.specs.Range.{list_to}
use Rattle.digits.proofs.Listed.{get_d_list, length-list, list_same}
use Rattle.clumps.specs.Lists.{having, holds}
use Rattle.clumps.specs.Clumps.{clumps_in, clumps_of, overflow_of}
use Rattle.clumps.specs.Levels.{output_cut, output_rest}
use Rattle.rows.specs.Inner.{members_at, row_at, rows_at, Formed, Rising, TransposeAsked, Transposed}
use Rattle.rows.proofs.Rows.{place_above, rising_more, row_is, rows_kept, which_rises, having_rises}
use Rattle.row_products.specs.declared.Problem.{Problem}
use Rattle.cuts.specs.declared.Pair.{Pair}
use Rattle.level.specs.Inner.{level_of, cut_of, places_of, most_clumps, level_end, LevelAsked, LevelCut}
use Rattle.level.specs.declared.Clumped.{Clumped}
use Rattle.level.proofs.Next.{next_outputs_lem}
use Rattle.level.proofs.Cutting.{quotient_low}
use Rattle.opening.specs.Inner.{rest_from, OpenAsked, OutputsOpened}

module _ (s : List ℕ) (t : Problem) (l : Pair) (to : ℕ) (asked : OpenAsked s t l to) where
  abbrev n : ℕ
  n = t.n

  abbrev m : ℕ
  m = t.m

  abbrev E : ℕ
  E = members_at s t.outs m

  abbrev keys : ℕ
  keys = to + m

  abbrev rest : ℕ
  rest = rest_from l t E to

  abbrev of : ℕ
  of = rest + n + 1 + E

  abbrev outs : List (List ℕ)
  outs = rows_at s t.outs m

  outs_long : length outs ≡ m
  outs_long = (row_is s t.outs m).1

  -- the places of the outputs' rows stand in the slice, and the numbers of cells are small
  pub outs_inside : (t.outs + m < length s) × (t.outs + m + 1 ≤ get_or s (t.outs + m) 0)
  outs_inside =
      let above = place_above s t.outs m _ asked.formed m (omega arith) in
      (omega (arith, above, asked.formed.inside), above)

  pub first_asked : TransposeAsked s t.outs m n of
  first_asked =
      record {
        formed = asked.formed;
        rising = asked.rising;
        below = omega (arith, asked.before);
        room = omega (arith, asked.cut_room, asked.formed.first);
        fits = asked.small;
      }

  module _ (e : ℕ) (s1 : List ℕ) (turned : Transposed t.outs m n of e s s1) where
    formed1 : Formed s1 of n e
    formed1 = rw (length-list n (having outs)) at turned.laid.formed

    own_end : get_or s1 (of + n) 0 ≡ e
    own_end = formed1.last

    members1 : members_at s1 of n ≡ E
    members1 = omega (arith, own_end, turned.end, asked.formed.first)

    row1 : (i : ℕ) → i < n → row_at s1 of i ≡ having outs i
    row1 i h =
        sym (get_d_list n (row_at s1 of) [] i h)
        ∙ ap (λ (r : List (List ℕ)). get_or r i []) (ap (rows_at s1 of) (sym (length-list n (having outs))) ∙ turned.laid.are)
        ∙ get_d_list n (having outs) [] i h

    rising1 : (i : ℕ) → i < n → Rising m (row_at s1 of i)
    rising1 i h = subst (Rising m) (sym (row1 i h)) (subst (λ (k : ℕ). Rising k (having outs i)) outs_long (having_rises outs i))

    size1 : length s1 ≡ length s
    size1 = turned.laid.apart.size

    pub level_asked : LevelAsked s1 of n m l keys rest
    level_asked =
        record {
          cut =
              record {
                formed = record { first = formed1.first; rises = formed1.rises; last = refl; inside = omega (arith, own_end, formed1.inside) };
                rising = λ i h. rising_more m (2 ^ 24) (row_at s1 of i) (omega (arith, asked.few_outputs)) (rising1 i h);
                some = asked.fits.some;
                within = asked.fits.within;
                few = asked.fits.few;
                keys_room = rw members1 (omega arith);
                rest_room = rw members1 (omega (arith, asked.cut_room, size1));
                away = inr (rw members1 (omega arith));
                fits = rw size1 asked.small;
              };
          rising = rising1;
          few = asked.few_outputs;
          room = rw (members1, size1) (omega (arith, asked.room));
        }

    cut_is : cut_of l m s1 of n ≡ output_cut (level_of l) n outs
    unfolding output_cut
    cut_is = list_same n _ _ (λ i h. ap₂ (λ (k : ℕ) (r : List ℕ). clumps_of (level_of l) k r) (sym outs_long) (row1 i h))

    module _ (c : Clumped) (s2 : List ℕ) (cut : LevelCut of n m l keys rest c s1 s2) where
      abbrev D : List (List ℕ)
      D = clumps_in (output_cut (level_of l) n outs)

      count : c.k ≡ length D
      count = cut.count ∙ ap (λ (x : List (List (List ℕ))). length (clumps_in x)) cut_is

      places2 : (i : ℕ) → i < n → row_at s2 keys i ≡ places_of (output_cut (level_of l) n outs) i
      places2 i h = cut.places i h ∙ ap (λ (x : List (List (List ℕ))). places_of x i) cut_is

      rows2 : rows_at s2 keys n ≡ list_to n (places_of (output_cut (level_of l) n outs))
      rows2 = list_same n (row_at s2 keys) _ places2

      size2 : length s2 ≡ length s
      size2 = cut.size ∙ size1

      keys_above : keys + n + 1 ≤ get_or s2 (keys + n) 0
      keys_above = place_above s2 keys n _ cut.places_formed n (omega arith)

      few_places : members_at s2 keys n ≤ E / l.b
      few_places = quotient_low l.b (members_at s2 keys n) E (omega (arith, asked.fits.some)) (omega (arith, cut.whole, members1))

      behind : rest + n + 1 ≤ c.clumps
      behind = omega (arith, place_above s2 rest n _ cut.rest_formed n (omega arith), cut.rest_before)

      after : c.clumps + c.k + 1 ≤ c.end
      after = omega (arith, place_above s2 c.clumps c.k _ cut.clumps_formed c.k (omega arith), cut.clumps_formed.last)

      few : c.k ≤ most_clumps l m E
      few = rw members1 at cut.few

      low2 : c.end ≤ level_end l m n E rest
      low2 = rw members1 at cut.low

      pub second_asked : TransposeAsked s2 keys n c.k c.end
      second_asked =
          record {
            formed = cut.places_formed;
            rising = λ i h. subst (Rising c.k) (sym (places2 i h))
                (subst (λ (k : ℕ). Rising k (places_of (output_cut (level_of l) n outs) i)) (sym count)
                (which_rises (λ x. holds (get_or D x []) (get_or (output_cut (level_of l) n outs) i [])) (length D)));
            below = omega (arith, few_places, keys_above, behind, after);
            room = omega (arith, few_places, keys_above, cut.places_formed.first, low2, few, asked.room, size2);
            fits = rw size2 asked.small;
          }

      module _ (made : ℕ) (s3 : List ℕ) (turned2 : Transposed keys n c.k c.end made s2 s3) where
        same3 : (x : ℕ) → x < c.end → get_or s3 x 0 ≡ get_or s2 x 0
        same3 = turned2.laid.apart.before

        size3 : length s3 ≡ length s2
        size3 = turned2.laid.apart.size

        rest3 : Formed s3 rest n (get_or s2 (rest + n) 0) × (rows_at s3 rest n ≡ rows_at s2 rest n)
        rest3 =
            rows_kept s2 rest n (get_or s2 (rest + n) 0) cut.rest_formed s3 (λ x h g. same3 x (omega (arith, cut.rest_before, after)))
            (omega (arith, cut.rest_formed.inside, size3))

        clumps3 : Formed s3 c.clumps c.k c.end × (rows_at s3 c.clumps c.k ≡ rows_at s2 c.clumps c.k)
        clumps3 = rows_kept s2 c.clumps c.k c.end cut.clumps_formed s3 (λ x h g. same3 x g) (omega (arith, cut.clumps_formed.inside, size3))

        pub outputs_opened : OutputsOpened t l to (record { rest = rest; clumps = c.clumps; k = c.k; next = c.end; made = made }) s s3
        unfolding output_rest
        outputs_opened =
            record {
              size = size3 ∙ size2;
              kept = λ x h. same3 x (omega (arith, behind, after)) ∙ cut.kept x h ∙ turned.laid.apart.before x (omega arith);
              rest_at = omega arith;
              rest_formed = record { first = rest3.0.first; rises = rest3.0.rises; last = refl; inside = omega (arith, rest3.0.last, rest3.0.inside) };
              rest_before = omega (arith, rest3.0.last, cut.rest_before);
              rest_are = rest3.1 ∙ list_same n (row_at s2 rest) _ (λ i h. cut.overflow i h ∙ ap₂ (λ (k : ℕ) (r : List ℕ). overflow_of (level_of l) k r) (sym outs_long) (row1 i h));
              count = count;
              clumps_formed = clumps3.0;
              clumps_are = clumps3.1 ∙ cut.clumps_are ∙ ap clumps_in cut_is;
              next_formed = rw (length-list c.k (having (rows_at s2 keys n))) at turned2.laid.formed;
              next_are =
                  ap (rows_at s3 c.end) (sym (length-list c.k (having (rows_at s2 keys n))))
                  ∙ turned2.laid.are
                  ∙ ap₂ (λ (k : ℕ) (r : List (List ℕ)). list_to k (having r)) count rows2
                  ∙ next_outputs_lem (level_of l) n outs;
              few = few;
              low = omega (arith, turned2.end, few_places, keys_above, cut.places_formed.first, low2);
            }
