-- A row cut part by part: what its cuts are in the end is what is laid so far and what the cells that are left are cut into. What is left to be cut asks
-- for no more than what is left of the room, and stands as it was, since it lies before all that is written or behind it.
use mathlib.Core.Path.{◌≡◌, refl, sym, ap, ap₂, subst, ◌∙◌}
use mathlib.Core.Logic.{◌⊎◌, inl, inr}
use mathlib.Core.List.{List, [], ◌∷◌, ◌++◌, map, map-append, append-nil, append_assoc}
use Prim.Native.Nat.{ℕ, suc, ◌+◌, ◌-◌, ◌*◌, ◌/◌, ◌^◌, ◌≤◌, ◌<◌}
use native.Mathlib.Nat.{add-mul, mul-add, mul-zero, one-mul, mul_comm, mul-le-mul_left, div-add-mod', mod-lt, le-div_iff_mul-le}
use native.Mathlib.Decide.{dec_lt}
use native.Mathlib.Omega.{arith}
use lib.ListN.{length, get_or}
use lib.Seq.{slice, slice_empty, length-slice}
use Rattle.digits.proofs.Blocks.{block_div}
use Rattle.groups.specs.Groups.{group_count}
use Rattle.clumps.specs.Clumps.{level, taken, remainder, clumps_of, overflow_of}
use Rattle.clumps.proofs.Cut.{part_below}
use Rattle.rows.specs.Inner.{Rising}
use Rattle.rows.proofs.Lists.{slice_cell, slice_same, slice_split}
use Rattle.rows.proofs.Rows.{rising_less, rising_part}
use Rattle.keys.specs.Inner.{Climbs, key_in}
use Rattle.cuts.specs.Inner.{RunEnds, CutRoom, CutTo, PartAsked, PartCut, RowAsked, RowCut}
use Rattle.cuts.proofs.Runs.{clumps_none, overflow_none, clumps_first, overflow_first}

-- rising numbers from .. to climb
climbs_rising : (from to : ℕ) (u : List ℕ) → Rising to u → (0 < length u → from ≤ get_or u 0 0) → Climbs from to u
climbs_rising from to [] r h = tt
climbs_rising from to (x ∷ u) r h = (
  h (omega arith),
  r.below 0 (omega arith),
  climbs_rising (x + 1) to u
      (record { rises = rest_rises; below = λ i k. r.below (suc i) (omega arith) })
      (λ k. omega (arith, r.rises 0 (omega arith))),
)
  where
    rest_rises : (i : ℕ) → i + 1 < length u → get_or u i 0 < get_or u (i + 1) 0
    rest_rises i k =
        let q : suc i + 1 ≡ suc (i + 1) = omega arith in
        rw q at (r.rises (suc i) (omega arith))

-- x times b and z more are x and as many as z has
pub div-more : (b x z t : ℕ) → 0 < b → b * x + z ≤ t → x + z / b ≤ t / b
div-more b x z t some h = (le-div_iff_mul-le some).1 (omega (arith, add-mul x (z / b) b, mul_comm b x, div-add-mod' z b))

-- what is cut in two steps has as many numbers as both
pub cuts-add : (b k₀ k k' r₀ r r' f i t : ℕ) → k₀ ≤ k → k ≤ k' → r₀ ≤ r → r ≤ r' → f ≤ i → i ≤ t → b * (k - k₀) + (r - r₀) ≡ i - f
    → b * (k' - k) + (r' - r) ≡ t - i → b * (k' - k₀) + (r' - r₀) ≡ t - f
cuts-add b k₀ k k' r₀ r r' f i t hk gk hr gr hi gi first second =
    let keys : k' - k₀ ≡ (k' - k) + (k - k₀) = between k₀ k k' hk gk in
    let rest : r' - r₀ ≡ (r' - r) + (r - r₀) = between r₀ r r' hr gr in
    let all : t - f ≡ (t - i) + (i - f) = between f i t hi gi in
    rw (keys, rest, all, mul-add b (k' - k) (k - k₀)) (added (b * (k - k₀)) (b * (k' - k)) (r - r₀) (r' - r) (i - f) (t - i) first second)
  where
    between : (x y z : ℕ) → x ≤ y → y ≤ z → z - x ≡ (z - y) + (y - x)
    between x y z h g = omega arith

    added : (p q u v x y : ℕ) → p + u ≡ x → q + v ≡ y → (q + p) + (v + u) ≡ y + x
    added p q u v x y h g = omega arith

module _ (a x : ℕ) (some : 0 < a) where
  part_low : x / a * a ≤ x
  part_low = omega (arith, div-add-mod' x a)

  part_high : x < (x / a + 1) * a
  part_high = omega (arith, div-add-mod' x a, mod-lt x some, add-mul (x / a) 1 a, one-mul a)

module _ (old : List ℕ) (from to a b keys rest : ℕ) where
  pub record RowTo (i k r : ℕ) (s : List ℕ) : Type 0 where
    pub after : from ≤ i
    pub asked : RowAsked s i to a b k r
    pub same : (c : ℕ) → i ≤ c → c < to → get_or s c 0 ≡ get_or old c 0
    pub cut : CutTo from i b keys rest k r old s
    pub clumps : (n : ℕ) → Rising n (slice from to old)
        → map (key_in a) (clumps_of (level a b) n (slice from to old)) ≡ slice keys k s ++ map (key_in a) (clumps_of (level a b) n (slice i to s))
    pub overflow : (n : ℕ) → Rising n (slice from to old)
        → overflow_of (level a b) n (slice from to old) ≡ slice rest r s ++ overflow_of (level a b) n (slice i to s)

  module _ (asked : RowAsked old from to a b keys rest) where
    pub row_none : RowTo from keys rest old
    row_none =
        let none : keys - keys ≡ 0 = omega arith in
        record {
          after = omega arith;
          asked = asked;
          same = λ c h g. refl;
          cut =
              record {
                size = refl;
                before = λ c h. refl;
                between = λ c h g. refl;
                behind = λ c h. refl;
                keys_rise = omega arith;
                keys_low = omega (arith, asked.room.keys_room);
                rest_rise = omega arith;
                whole = rw none (omega (arith, mul-zero b));
              };
          clumps = λ n h. ap (λ (l : List ℕ). l ++ map (key_in a) (clumps_of (level a b) n (slice from to old))) (sym (slice_empty keys old));
          overflow = λ n h. ap (λ (l : List ℕ). l ++ overflow_of (level a b) n (slice from to old)) (sym (slice_empty rest old));
        }

    pub row_all : (i k r : ℕ) (s : List ℕ) → RowTo i k r s → to ≤ i → RowCut from to a b keys rest k r old s
    row_all i k r s d h =
        let last : i ≡ to = omega (arith, d.asked.room.order) in
        let none : slice i to s ≡ [] = ap (λ (c : ℕ). slice c to s) last ∙ slice_empty to s in
        record {
          cut = rw last at d.cut;
          clumps = λ n g.
              sym (append-nil (slice keys k s))
              ∙ ap (λ (l : List ℕ). slice keys k s ++ l)
              (sym (ap (λ (u : List ℕ). map (key_in a) (clumps_of (level a b) n u)) none ∙ ap (map (key_in a)) (clumps_none a b n)))
              ∙ sym (d.clumps n g);
          overflow = λ n g.
              sym (append-nil (slice rest r s))
              ∙ ap (λ (l : List ℕ). slice rest r s ++ l) (sym (ap (overflow_of (level a b) n) none ∙ overflow_none a b n))
              ∙ sym (d.overflow n g);
        }

    module _ (i k r : ℕ) (s : List ℕ) (d : RowTo i k r s) (less : i < to) where
      abbrev room : CutRoom s i to a b k r
      room = d.asked.room

      abbrev x : ℕ
      x = get_or s i 0

      abbrev part : ℕ
      part = x / a

      abbrev limit : ℕ
      limit = (part + 1) * a

      pub some : 0 < a
      some = omega (arith, room.some, room.within)

      long : length (slice i to s) ≡ to - i
      long = length-slice i to s room.inside

      cell : (c : ℕ) → i ≤ c → c < to → get_or (slice i to s) (c - i) 0 ≡ get_or s c 0
      cell c h g =
          let q : i + (c - i) ≡ c = omega arith in
          slice_cell i to s (c - i) (omega arith) ∙ ap (λ (j : ℕ). get_or s j 0) q

      -- numbers rise from the one at hand on
      up : (c e : ℕ) → i ≤ c → c ≤ e → e < to → get_or s c 0 ≤ get_or s e 0
      up c e h g l = by_place (dec_lt c e)
        where
          by_place : Dec (c < e) → get_or s c 0 ≤ get_or s e 0
          by_place (yes lt) =
              omega (
                arith,
                rising_less (2 ^ 24) (slice i to s) d.asked.rising (c - i) (e - i) (omega arith) (omega (arith, long)),
                cell c h (omega arith),
                cell e (omega arith) l,
              )
          by_place (no ge) = let q : c ≡ e = omega arith in omega (arith, ap (λ (j : ℕ). get_or s j 0) q)

      x_low : x < 2 ^ 24
      x_low = omega (arith, d.asked.rising.below (i - i) (omega (arith, long)), cell i (omega arith) less)

      pub limit_low : limit < 2 ^ 32
      limit_low = omega (arith, part_low a x some, add-mul part 1 a, one-mul a, room.few, x_low)

      pub part_small : part < 2 ^ 23
      part_small =
          let two : part * 2 ≤ part * a = mul-le-mul_left part (omega (arith, room.some, room.within)) in
          omega (arith, part_low a x some, x_low)

      module _ (e : ℕ) (run : RunEnds s i to limit e) where
        pub run_some : i < e
        run_some = by_place (dec_lt i e)
          where
            by_place : Dec (i < e) → i < e
            by_place (yes lt) = lt
            by_place (no ge) =
                let q : e ≡ i = omega (arith, run.after) in
                absurd (omega (arith, part_high a x some, run.stops (omega arith), ap (λ (c : ℕ). get_or s c 0) q))

        long_here : length (slice i e s) ≡ e - i
        long_here = length-slice i e s (omega (arith, run.within, room.inside))

        pub part_asked : PartAsked s i e part a b k r
        part_asked =
            record {
              room =
                  record {
                    order = run.after;
                    inside = omega (arith, run.within, room.inside);
                    some = room.some;
                    within = room.within;
                    few = room.few;
                    keys_room = omega (arith, room.keys_room, fewer);
                    rest_room = omega (arith, room.rest_room, run.within);
                    away = by_side room.away;
                  };
              low = part_small;
              climbs = climbs_rising (part * a) limit (slice i e s) rises (λ h. omega (arith, part_low a x some, first));
            }
          where
            fewer : (e - i) / b ≤ (to - i) / b
            fewer = omega (arith, div-more b 0 (e - i) (to - i) (omega (arith, room.some)) (omega (arith, mul-zero b, run.within)))

            by_side : (to ≤ k) ⊎ (r + (to - i) ≤ i) → (e ≤ k) ⊎ (r + (e - i) ≤ i)
            by_side (inl low) = inl (omega (arith, run.within))
            by_side (inr high) = inr (omega (arith, run.within))

            first : get_or (slice i e s) 0 0 ≡ x
            first =
                let q : i + 0 ≡ i = omega arith in
                slice_cell i e s 0 (omega (arith, run_some)) ∙ ap (λ (c : ℕ). get_or s c 0) q

            rises : Rising limit (slice i e s)
            rises =
                let r = rising_part (2 ^ 24) i to i e s room.inside (omega arith) run.within d.asked.rising in
                record {
                  rises = r.rises;
                  below = λ j h. rw (slice_cell i e s j (omega (arith, long_here))) (run.below (i + j) (omega arith) (omega (arith, long_here)));
                }

        -- the run is what the part has, and what is behind it lies in later parts
        own : (j : ℕ) → j < length (slice i e s) → get_or (slice i e s) j 0 / a ≡ part
        own j h =
            let y : ℕ = get_or s (i + j) 0 in
            let low = up i (i + j) (omega arith) (omega arith) (omega (arith, long_here, run.within)) in
            let high = run.below (i + j) (omega arith) (omega (arith, long_here)) in
            let q : y ≡ part * a + (y - part * a) = omega (arith, part_low a x some, low) in
            ap (λ (v : ℕ). v / a) (slice_cell i e s j (omega (arith, long_here)) ∙ q)
            ∙ block_div part a (y - part * a) (omega (arith, part_low a x some, low, high, add-mul part 1 a, one-mul a))

        above : (j : ℕ) → j < length (slice e to s) → part < get_or (slice e to s) j 0 / a
        above j h =
            let size : length (slice e to s) ≡ to - e = length-slice e to s room.inside in
            let more = up e (e + j) run.after (omega arith) (omega arith) in
            let far : part + 1 ≤ get_or s (e + j) 0 / a = (le-div_iff_mul-le some).1 (omega (arith, run.stops (omega arith), more)) in
            rw (slice_cell e to s j (omega arith)) (omega (arith, far))

        halves : slice i to s ≡ slice i e s ++ slice e to s
        halves = slice_split i e to s run.after run.within room.inside

        reached : (n : ℕ) → Rising n (slice from to old) → part < group_count a n
        reached n h =
            let size : length (slice from to old) ≡ to - from = length-slice from to old asked.room.inside in
            let q : from + (i - from) ≡ i = omega (arith, d.after) in
            let there : get_or (slice from to old) (i - from) 0 ≡ x =
            slice_cell from to old (i - from) (omega (arith, d.after)) ∙ ap (λ (c : ℕ). get_or old c 0) q ∙ sym (d.same i (omega arith) less) in
            part_below a n x some (omega (arith, h.below (i - from) (omega (arith, d.after)), there))

        module _ (k' r' : ℕ) (new : List ℕ) (done : PartCut i e a b k r k' r' s new) where
          abbrev cut : CutTo i e b k r k' r' s new
          cut = done.cut

          -- the cells to be cut are not among those written
          unwritten : (c : ℕ) → i ≤ c → c < to → get_or new c 0 ≡ get_or s c 0
          unwritten c h g = by_side room.away
            where
              by_side : (to ≤ k) ⊎ (r + (to - i) ≤ i) → get_or new c 0 ≡ get_or s c 0
              by_side (inl low) = cut.before c (omega arith)
              by_side (inr high) = cut.behind c (omega (arith, cut.whole, cut.rest_rise, run.within))

          left_is : slice e to new ≡ slice e to s
          left_is =
              slice_same e to new s (omega (arith, cut.size, room.inside)) room.inside (λ c h g. unwritten c (omega (arith, run.after)) g)

          whole : b * (k' - keys) + (r' - rest) ≡ e - from
          whole =
              cuts-add b keys k k' rest r r' from i e d.cut.keys_rise cut.keys_rise d.cut.rest_rise cut.rest_rise d.after run.after
              d.cut.whole cut.whole

          keys_low : k' ≤ rest
          keys_low =
              let few : (k' - keys) + 0 / b ≤ (to - from) / b =
              div-more b (k' - keys) 0 (to - from) (omega (arith, room.some)) (omega (arith, whole, run.within)) in
              omega (arith, few, asked.room.keys_room, cut.keys_rise, d.cut.keys_rise)

          next_asked : RowAsked new e to a b k' r'
          next_asked =
              record {
                room =
                    record {
                      order = run.within;
                      inside = omega (arith, cut.size, room.inside);
                      some = room.some;
                      within = room.within;
                      few = room.few;
                      keys_room =
                          omega (
                            arith,
                            div-more b (k' - k) (to - e) (to - i) (omega (arith, room.some)) (omega (arith, cut.whole, run.within, run.after)),
                            room.keys_room,
                            cut.keys_rise,
                            cut.rest_rise,
                          );
                      rest_room = omega (arith, cut.size, room.rest_room, cut.whole, run.within, run.after);
                      away = by_side room.away;
                    };
                rising = subst (Rising (2 ^ 24)) (sym left_is) (rising_part (2 ^ 24) i to e to s room.inside run.after (omega arith) d.asked.rising);
              }
            where
              by_side : (to ≤ k) ⊎ (r + (to - i) ≤ i) → (to ≤ k') ⊎ (r' + (to - e) ≤ e)
              by_side (inl low) = inl (omega (arith, cut.keys_rise))
              by_side (inr high) = inr (omega (arith, cut.whole, run.within, run.after))

          pub row_more : RowTo e k' r' new
          row_more =
              record {
                after = omega (arith, d.after, run.after);
                asked = next_asked;
                same = λ c h g. unwritten c (omega (arith, run.after)) g ∙ d.same c (omega (arith, run.after)) g;
                cut =
                    record {
                      size = cut.size ∙ d.cut.size;
                      before = λ c h. cut.before c (omega (arith, d.cut.keys_rise)) ∙ d.cut.before c h;
                      between = λ c h g. cut.between c h (omega (arith, d.cut.rest_rise)) ∙ d.cut.between c (omega (arith, cut.keys_rise)) g;
                      behind = λ c h. cut.behind c h ∙ d.cut.behind c (omega (arith, cut.rest_rise));
                      keys_rise = omega (arith, cut.keys_rise, d.cut.keys_rise);
                      keys_low = keys_low;
                      rest_rise = omega (arith, cut.rest_rise, d.cut.rest_rise);
                      whole = whole;
                    };
                clumps = λ n h.
                    d.clumps n h
                    ∙ ap (λ (l : List ℕ). slice keys k s ++ l)
                    (ap (λ (u : List ℕ). map (key_in a) (clumps_of (level a b) n u)) halves
                    ∙ ap (map (key_in a)) (clumps_first a b n part (slice i e s) (slice e to s) own above (reached n h))
                    ∙ map-append (key_in a) (taken b (slice i e s)) (clumps_of (level a b) n (slice e to s)))
                    ∙ sym (append_assoc (slice keys k s) (map (key_in a) (taken b (slice i e s))) (map (key_in a) (clumps_of (level a b) n (slice e to s))))
                    ∙ ap₂ (λ (u v : List ℕ). u ++ map (key_in a) (clumps_of (level a b) n v)) (sym keys_are) (sym left_is);
                overflow = λ n h.
                    d.overflow n h
                    ∙ ap (λ (l : List ℕ). slice rest r s ++ l)
                    (ap (overflow_of (level a b) n) halves ∙ overflow_first a b n part (slice i e s) (slice e to s) own above (reached n h))
                    ∙ sym (append_assoc (slice rest r s) (remainder b (slice i e s)) (overflow_of (level a b) n (slice e to s)))
                    ∙ ap₂ (λ (u v : List ℕ). u ++ overflow_of (level a b) n v) (sym rest_is) (sym left_is);
              }
            where
              r_inside : r' ≤ length new
              r_inside = omega (arith, cut.size, room.rest_room, cut.whole, run.within)

              keys_are : slice keys k' new ≡ slice keys k s ++ map (key_in a) (taken b (slice i e s))
              keys_are =
                  slice_split keys k k' new d.cut.keys_rise cut.keys_rise (omega (arith, keys_low, r_inside, d.cut.rest_rise, cut.rest_rise))
                  ∙ ap₂ ◌++◌
                  (slice_same keys k new s (omega (arith, cut.keys_rise, keys_low, r_inside, d.cut.rest_rise, cut.rest_rise))
                  (omega (arith, cut.keys_rise, keys_low, r_inside, d.cut.rest_rise, cut.rest_rise, cut.size)) (λ c h g. cut.before c g))
                  done.clumps

              rest_is : slice rest r' new ≡ slice rest r s ++ remainder b (slice i e s)
              rest_is =
                  slice_split rest r r' new d.cut.rest_rise cut.rest_rise r_inside
                  ∙ ap₂ ◌++◌
                  (slice_same rest r new s (omega (arith, r_inside, cut.rest_rise)) (omega (arith, r_inside, cut.rest_rise, cut.size))
                  (λ c h g. cut.between c (omega (arith, keys_low)) g))
                  done.overflow
