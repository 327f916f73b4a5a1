-- A level cut by three calls: the rows' clumps are laid as keys, the keys are ranked, and the clumps of the different keys are laid as rows. What each
-- call asks is there after the one before it, and what they leave together is the level cut.
use mathlib.Core.Path.{◌≡◌, refl, sym, ap, ap₂, subst, ◌∙◌}
use mathlib.Core.Bool.{true}
use mathlib.Core.List.{List, [], ◌∷◌, map}
use Prim.Native.Nat.{ℕ, zero, suc, ◌+◌, ◌-◌, ◌*◌, ◌/◌, ◌^◌, ◌≤◌, ◌<◌}
use native.Mathlib.Nat.{mul_comm, mul-le-mul_left, mul-le-mul_right, suc-mul, zero-mul, div-add-mod', mod-lt}
use native.Mathlib.Decide.{dec_le}
use native.Mathlib.Omega.{arith}
use lib.ListN.{length, get_or}
use lib.Seq.{slice, length-slice, ext_get_or}
use Rattle.digits.specs.Range.{sum_to, list_to}
use Rattle.digits.proofs.Range.{sum_same}
use Rattle.digits.proofs.Listed.{get_d_list, length-list}
use Rattle.groups.specs.Groups.{group_count}
use Rattle.clumps.specs.Lists.{joined, which, has, holds, entered}
use Rattle.clumps.specs.Clumps.{most_part, clumps_in, clumps_of}
use Rattle.clumps.proofs.Lists.{get_d_map_in, joined_same}
use Rattle.clumps.proofs.Ranked.{which_few, which_item}
use Rattle.rows.specs.Inner.{members_at, row_at, rows_at, Formed}
use Rattle.rows.proofs.Lists.{slice_cell}
use Rattle.rows.proofs.Rows.{place_above, row_inside, row_kept, rows_kept}
use Rattle.rows.proofs.Members.{rows_joined, part_changed}
use Rattle.keys.specs.Inner.{key_in, clump_of, clump_in, ClumpsAsked, ClumpsLaid}
use Rattle.keys.proofs.Entering.{Every}
use Rattle.keys.proofs.Climbing.{Good}
use Rattle.ranks.specs.Inner.{different, rank_in, RankAsked, Ranked}
use Rattle.cuts.specs.Inner.{RowsCut}
use Rattle.cuts.specs.declared.Pair.{Pair}
use Rattle.cuts.specs.declared.Ends.{Ends}
use Rattle.level.specs.Inner.{level_of, keys_of, cut_of, places_of, LevelAsked, LevelCut}
use Rattle.level.proofs.Ranked.{every_has, goods, low, clumps_are, clumps_count, clumps_listed, ranks_are, clump_long}

pub quotient_low : (b k e : ℕ) → 1 ≤ b → b * k ≤ e → k ≤ e / b
quotient_low b k e some h = by_order (dec_le k (e / b))
  where
    by_order : Dec (k ≤ e / b) → k ≤ e / b
    by_order (yes le) = le
    by_order (no gt) =
        let far : suc (e / b) * b ≤ k * b = mul-le-mul_right b (omega arith) in
        absurd (omega (arith, far, suc-mul (e / b) b, div-add-mod' e b, mod-lt e some, mul_comm b k))

-- a key's part ends at a small number
small_key : (a n y : ℕ) → 1 ≤ a → a ≤ most_part → n < 2 ^ 24 → y < group_count a n * 2 ^ a → (y / 2 ^ a + 1) * a < 2 ^ 32
small_key a n y some few small h = by_order (dec_le (y / 2 ^ a + 1) (group_count a n))
  where
    by_order : Dec (y / 2 ^ a + 1 ≤ group_count a n) → (y / 2 ^ a + 1) * a < 2 ^ 32
    by_order (yes le) = omega (arith, mul-le-mul_right a le, div-add-mod' (n + a - 1) a)
    by_order (no gt) =
        let far : group_count a n * 2 ^ a ≤ y / 2 ^ a * 2 ^ a = mul-le-mul_right (2 ^ a) (omega arith) in
        absurd (omega (arith, far, div-add-mod' y (2 ^ a)))

pub every_at : (P : ℕ → Type 0) (l : List ℕ) → Every P l → (i : ℕ) → i < length l → P (get_or l i 0)
every_at P [] e i h = absurd (omega arith)
every_at P (x ∷ l) e zero h = e.0
every_at P (x ∷ l) e (suc i) h = every_at P l e.1 i (omega arith)

module _ (at m n : ℕ) (l : Pair) (keys rest : ℕ) (s : List ℕ) (asked : LevelAsked s at m n l keys rest)
    (ends : Ends) (s1 : List ℕ) (cut : RowsCut at m l keys rest ends s s1) where
  abbrev a : ℕ
  a = l.a

  abbrev from : ℕ
  from = keys + m + 1

  abbrev T : ℕ
  T = keys_of l n

  abbrev E : ℕ
  E = members_at s at m

  abbrev all : List ℕ
  all = joined m (λ j. map (key_in a) (clumps_of (level_of l) n (row_at s at j)))

  somea : 1 ≤ a
  somea = omega (arith, asked.cut.some, asked.cut.within)

  someb : 1 ≤ l.b
  someb = omega (arith, asked.cut.some)

  keys_rise : from ≤ ends.keys
  keys_rise = place_below' (place_above s1 keys m ends.keys cut.keys_formed m (omega arith)) cut.keys_formed.last
    where
      place_below' : from ≤ get_or s1 (keys + m) 0 → get_or s1 (keys + m) 0 ≡ ends.keys → from ≤ ends.keys
      place_below' h e = omega (arith, h, e)

  rest_rise : rest + m + 1 ≤ ends.rest
  rest_rise = omega (arith, place_above s1 rest m ends.rest cut.rest_formed m (omega arith), cut.rest_formed.last)

  few : ends.keys - from ≤ E / l.b
  few = quotient_low l.b (ends.keys - from) E someb (omega (arith, cut.whole))

  flat : slice from ends.keys s1 ≡ all
  flat = rows_joined s1 keys m ends.keys cut.keys_formed ∙ joined_same m _ _ (λ j h. cut.clumps n j h (asked.rising j h))

  flat_long : length all ≡ ends.keys - from
  flat_long = sym (ap length flat) ∙ length-slice from ends.keys s1 (omega (arith, cut.keys_formed.inside))

  pub rank_asked : RankAsked s1 from ends.keys ends.rest T
  rank_asked =
      record {
        rises = keys_rise;
        below = omega (arith, cut.keys_low, rest_rise);
        low = λ i h g. low_at i h g;
        room = omega (arith, few, cut.whole, asked.room, cut.apart.size);
        fits = rw cut.apart.size asked.cut.fits;
      }
    where
      low_at : (i : ℕ) → from ≤ i → i < ends.keys → get_or s1 i 0 < T
      low_at i h g =
          let q : from + (i - from) ≡ i = omega arith in
          subst (λ (x : ℕ). x < T) (sym (ap (λ (c : ℕ). get_or s1 c 0) (sym q) ∙ sym (slice_cell from ends.keys s1 (i - from) (omega arith)) ∙ ap (λ (r : List ℕ). get_or r (i - from) 0) flat))
          (every_at (λ x. x < T) all (low (level_of l) somea someb n m (row_at s at) asked.rising) (i - from) (omega (arith, flat_long)))

  -- all clumps in order
  abbrev D : List (List ℕ)
  D = clumps_in (cut_of l n s at m)

  abbrev C : ℕ → List (List ℕ)
  C j = clumps_of (level_of l) n (row_at s at j)

  joined_is : D ≡ entered [] (joined m C)
  joined_is = clumps_listed m C

  D_is : D ≡ map (clump_of a) (different all T)
  D_is = joined_is ∙ clumps_are (level_of l) somea someb n m (row_at s at) asked.rising

  D_long : length D ≡ length (different all T)
  D_long = ap length joined_is ∙ clumps_count (level_of l) somea someb n m (row_at s at) asked.rising

  module _ (clumps : ℕ) (s2 : List ℕ) (ranked : Ranked from ends.keys ends.rest T clumps s1 s2) where
    abbrev first : ℕ
    first = ends.rest + T

    abbrev k : ℕ
    k = clumps - first

    end_is : clumps ≡ first + length (different all T)
    end_is = ranked.end ∙ ap (λ (r : List ℕ). first + length (different r T)) flat

    count : k ≡ length (different all T)
    count = omega (arith, end_is)

    few_clumps : k ≤ ends.keys - from
    few_clumps = omega (arith, ranked.low)

    few_keys : k ≤ T
    few_keys = omega (arith, count, which_few (λ x. has x all) T)

    different_is : slice first clumps s2 ≡ different all T
    different_is = ranked.keys ∙ ap (λ (r : List ℕ). different r T) flat

    key_at_lem : (j : ℕ) → j < k → get_or s2 (first + j) 0 ≡ get_or (different all T) j 0
    key_at_lem j h = sym (slice_cell first clumps s2 j (omega arith)) ∙ ap (λ (r : List ℕ). get_or r j 0) different_is

    key_there : (j : ℕ) → j < k → (get_or (different all T) j 0 < T) × (has (get_or (different all T) j 0) all ≡ true)
    key_there j h = which_item (λ x. has x all) T j (omega (arith, count))

    key_good : (j : ℕ) → j < k → Good a l.b (get_or (different all T) j 0)
    key_good j h =
        every_has (Good a l.b) _ all (goods (level_of l) somea someb n m (row_at s at) asked.rising) (key_there j h).1

    clump_size : (j : ℕ) → j < k → length (clump_in a s2 (first + j)) ≡ l.b
    clump_size j h = ap (λ (x : ℕ). length (clump_of a x)) (key_at_lem j h) ∙ clump_long a l.b somea someb _ (key_good j h)

    sizes : sum_to k (λ j. length (clump_in a s2 (first + j))) ≡ l.b * k
    sizes = sum_same k _ _ clump_size ∙ equal-sum k ∙ mul_comm k l.b
      where
        equal-sum : (n : ℕ) → sum_to n (λ j. l.b) ≡ n * l.b
        equal-sum zero = sym (zero-mul l.b)
        equal-sum (suc n) = omega (arith, equal-sum n, suc-mul n l.b)

    size2 : length s2 ≡ length s
    size2 = ranked.long ∙ cut.apart.size

    times_few : l.b * k ≤ l.b * (ends.keys - from)
    times_few = mul-le-mul_left l.b few_clumps

    pub clumps_asked : ClumpsAsked s2 first k a clumps
    clumps_asked =
        record {
          some = somea;
          few = asked.cut.few;
          before = omega (arith, end_is);
          small = λ j h. rw (key_at_lem j h) (small_key a n _ somea asked.cut.few asked.few (key_there j h).0);
          room = omega (arith, sizes, end_is, count, few_clumps, few_keys, few, times_few, cut.whole, asked.room, size2, rest_rise);
          fits = rw size2 asked.cut.fits;
        }

    -- the rows of keys became rows of places; those of overflow are as they were
    formed2 : Formed s2 keys m ends.keys
    formed2 =
        record {
          first = ranked.before keys (omega arith) ∙ cut.keys_formed.first;
          rises = λ j h. rw (ranked.before (keys + j) (omega arith), ranked.before (keys + j + 1) (omega arith)) (cut.keys_formed.rises j h);
          last = ranked.before (keys + m) (omega arith) ∙ cut.keys_formed.last;
          inside = omega (arith, cut.keys_formed.inside, ranked.long);
        }

    row2 : (j : ℕ) → j < m → row_at s2 keys j ≡ places_of (cut_of l n s at m) j
    unfolding row_at
    row2 j h =
        ap₂ (λ (p q : ℕ). slice p q s2) (ranked.before (keys + j) (omega arith)) (ranked.before (keys + j + 1) (omega arith))
        ∙ part_changed (rank_in (slice from ends.keys s1)) from ends.keys _ _ s1 s2 cut.keys_formed.inside (omega (arith, cut.keys_formed.inside, ranked.long))
        (row_inside s1 keys m ends.keys cut.keys_formed j h).0 (row_inside s1 keys m ends.keys cut.keys_formed j h).1 ranked.ranks
        ∙ ap₂ (λ (r v : List ℕ). map (rank_in r) v) flat (cut.clumps n j h (asked.rising j h))
        ∙ ranks_are (level_of l) somea someb n m (row_at s at) asked.rising j h
        ∙ ap₂ (λ (d c : List (List ℕ)). which (λ x. holds (get_or d x []) c) (length d)) (sym joined_is) (sym (get_d_list m C [] j h))

    rest_same : (c : ℕ) → rest ≤ c → c < ends.rest → get_or s2 c 0 ≡ get_or s1 c 0
    rest_same c h g = ranked.between c (omega (arith, cut.keys_low)) g

    module _ (end : ℕ) (s3 : List ℕ) (laid : ClumpsLaid first k a clumps end s2 s3) where
      rows_is : list_to k (λ j. clump_in a s2 (first + j)) ≡ D
      rows_is = ext_get_or [] _ D (length-list k _ ∙ count ∙ sym D_long) (λ j h. one j (omega (arith, length-list k (λ j. clump_in a s2 (first + j)))))
        where
          one : (j : ℕ) → j < k → get_or (list_to k (λ j. clump_in a s2 (first + j))) j [] ≡ get_or D j []
          one j h =
              get_d_list k _ [] j h
              ∙ ap (clump_of a) (key_at_lem j h)
              ∙ sym (ap (λ (d : List (List ℕ)). get_or d j []) D_is ∙ get_d_map_in (clump_of a) (different all T) j 0 [] (omega (arith, count)))

      size3 : length s3 ≡ length s2
      size3 = laid.laid.apart.size

      same3 : (c : ℕ) → c < clumps → get_or s3 c 0 ≡ get_or s2 c 0
      same3 = laid.laid.apart.before

      keys3 : Formed s3 keys m ends.keys × (rows_at s3 keys m ≡ rows_at s2 keys m)
      keys3 =
          rows_kept s2 keys m ends.keys formed2 s3 (λ c h g. same3 c (omega (arith, cut.keys_low, rest_rise, end_is)))
          (omega (arith, formed2.inside, size3))

      level_row : (j : ℕ) → j < m → row_at s3 keys j ≡ row_at s2 keys j
      level_row =
          row_kept s2 keys m ends.keys formed2 s3 (λ c h g. same3 c (omega (arith, cut.keys_low, rest_rise, end_is))) (omega (arith, formed2.inside, size3))

      rest_both : (c : ℕ) → rest ≤ c → c < ends.rest → get_or s3 c 0 ≡ get_or s1 c 0
      rest_both c h g = same3 c (omega (arith, end_is)) ∙ rest_same c h g

      rest_room : ends.rest ≤ length s3
      rest_room = omega (arith, cut.rest_formed.inside, ranked.long, size3)

      rest3 : Formed s3 rest m ends.rest × (rows_at s3 rest m ≡ rows_at s1 rest m)
      rest3 = rows_kept s1 rest m ends.rest cut.rest_formed s3 rest_both rest_room

      clumps_last : get_or s3 (clumps + k) 0 ≡ end
      clumps_last = (rw (length-list k (λ j. clump_in a s2 (first + j))) at laid.laid.formed).last

      pub level_cut : LevelCut at m n l keys rest (record { clumps = clumps; k = k; end = end }) s s3
      level_cut =
          record {
            size = size3 ∙ size2;
            kept = λ c h. same3 c (omega (arith, cut.keys_low, rest_rise, end_is, keys_rise)) ∙ ranked.before c (omega arith) ∙ cut.apart.before c h;
            places_formed = own_end keys3.0;
            places = λ j h. level_row j h ∙ row2 j h;
            rest_formed = own_end rest3.0;
            rest_before = omega (arith, rest3.0.last, end_is);
            overflow = λ j h. row_kept s1 rest m ends.rest cut.rest_formed s3 rest_both rest_room j h ∙ cut.overflow n j h (asked.rising j h);
            whole = rw (keys3.0.last, rest3.0.last) cut.whole;
            count = count ∙ sym D_long;
            clumps_formed = rw (length-list k (λ j. clump_in a s2 (first + j))) at laid.laid.formed;
            clumps_are = ap (rows_at s3 clumps) (sym (length-list k (λ j. clump_in a s2 (first + j)))) ∙ laid.laid.are ∙ rows_is;
            members = omega (arith, clumps_last, laid.end, sizes, times_few, cut.whole, rest3.0.last);
            few = omega (arith, few_clumps, few, few_keys);
            low = omega (arith, laid.end, sizes, end_is, count, few_clumps, few_keys, few, times_few, cut.whole, rest_rise);
          }
        where
          own_end : {at e : ℕ} → Formed s3 at m e → Formed s3 at m (get_or s3 (at + m) 0)
          own_end f = record { first = f.first; rises = f.rises; last = refl; inside = omega (arith, f.last, f.inside) }
