-- Rows cut one after the other: those so far stand as rows of keys and as rows of overflow, and the numbers that they have together are those of the rows
-- that were cut, so that there is room for the next. The rows to be cut are not among the cells written. A place of one kind of rows is no cell of the
-- other, so the two may be set in any order.
use mathlib.Core.Path.{◌≡◌, sym, ap, ap₂, subst, ◌∙◌}
use mathlib.Core.Logic.{◌⊎◌, inl, inr}
use mathlib.Core.List.{List, map}
use Prim.Native.Nat.{ℕ, ◌+◌, ◌-◌, ◌*◌, ◌/◌, ◌^◌, ◌≤◌, ◌<◌}
use native.Mathlib.Omega.{arith}
use lib.ListN.{length, get_or, set, length-set}
use lib.Seq.{slice, get_or-set_same, get_or-set_other, set_comm}
use Rattle.clumps.specs.Clumps.{level, clumps_of, overflow_of}
use Rattle.rows.specs.Inner.{members_at, row_at, Rising, Apart, RowsTo}
use Rattle.rows.proofs.Lists.{slice_same}
use Rattle.rows.proofs.Rows.{place_above, place_below, row_inside, row_kept, rows_kept}
use Rattle.rows.proofs.Laying.{rows_more, rows_all}
use Rattle.keys.specs.Inner.{key_in}
use Rattle.cuts.specs.Inner.{CutAsked, RowsCut, CutTo, RowAsked, RowCut, Placed}
use Rattle.cuts.specs.declared.Pair.{Pair}
use Rattle.cuts.specs.declared.Ends.{Ends}
use Rattle.cuts.proofs.Runs.{clumps_any, overflow_any}
use Rattle.cuts.proofs.Rowing.{div-more, cuts-add}

module _ (old : List ℕ) (at m a b keys rest : ℕ) where
  -- the row of keys and that of overflow of row i
  abbrev keys_of : ℕ → List ℕ
  keys_of i = map (key_in a) (clumps_of (level a b) (2 ^ 24) (row_at old at i))

  abbrev rest_of : ℕ → List ℕ
  rest_of i = overflow_of (level a b) (2 ^ 24) (row_at old at i)

  pub record RowsCutTo (j k r : ℕ) (s : List ℕ) : Type 0 where
    pub keys_rows : RowsTo keys m j k keys_of s
    pub rest_rows : RowsTo rest m j r rest_of s
    pub apart : Apart keys r old s
    pub keys_low : k ≤ rest
    pub whole : b * (k - (keys + m + 1)) + (r - (rest + m + 1)) ≡ get_or old (at + j) 0 - (at + m + 1)

module _ (old : List ℕ) (at m : ℕ) (l : Pair) (keys rest : ℕ) (asked : CutAsked old at m l keys rest) where
  abbrev a : ℕ
  a = l.a

  abbrev b : ℕ
  b = l.b

  abbrev end : ℕ
  end = get_or old (at + m) 0

  abbrev members : ℕ
  members = members_at old at m

  abbrev Done : ℕ → ℕ → ℕ → List ℕ → Type 0
  Done j k r s = RowsCutTo old at m l.a l.b keys rest j k r s

  above : (j : ℕ) → j ≤ m → at + m + 1 ≤ get_or old (at + j) 0
  above = place_above old at m end asked.formed

  below : (j : ℕ) → j ≤ m → get_or old (at + j) 0 ≤ end
  below = place_below old at m end asked.formed

  some : 0 < b
  some = omega (arith, asked.some)

  module _ (j k r : ℕ) (s : List ℕ) (d : Done j k r s) where
    keys_above : keys + m + 1 ≤ k
    keys_above = omega (arith, d.keys_rows.between 0 (omega arith))

    rest_above : rest + m + 1 ≤ r
    rest_above = omega (arith, d.rest_rows.between 0 (omega arith))

    r_low : r ≤ rest + m + 1 + members
    r_low = omega (arith, d.whole, rest_above, below j d.keys_rows.some)

    -- the rows to be cut are not among the cells written
    unwritten : (c : ℕ) → at ≤ c → c < end → get_or s c 0 ≡ get_or old c 0
    unwritten c h g = by_side asked.away
      where
        by_side : (end ≤ keys) ⊎ (rest + m + 1 + members ≤ at) → get_or s c 0 ≡ get_or old c 0
        by_side (inl low) = d.apart.before c (omega arith)
        by_side (inr high) = d.apart.behind c (omega (arith, r_low))

    pub all_cut : m ≤ j → (e : Ends) → e.keys ≡ k → e.rest ≡ r → RowsCut at m l keys rest e old s
    all_cut h e ek er =
        let last : j ≡ m = omega (arith, d.keys_rows.some) in
        rows_cut e ek er (rw last at d)
      where
        rows_cut : (e : Ends) → e.keys ≡ k → e.rest ≡ r → Done m k r s → RowsCut at m l keys rest e old s
        rows_cut e ek er d =
            rw (ek, er)
            (record {
              apart = d.apart;
              keys_formed = (rows_all keys m (keys_of old at m a b keys rest) k s d.keys_rows).0;
              rest_formed = (rows_all rest m (rest_of old at m a b keys rest) r s d.rest_rows).0;
              whole = d.whole;
              keys_low = d.keys_low;
              clumps = λ n i h g.
                  d.keys_rows.are i h
                  ∙ ap (map (key_in a)) (clumps_any a b (omega (arith, asked.some, asked.within)) (2 ^ 24) n (row_at old at i) (asked.rising i h) g);
              overflow = λ n i h g.
                  d.rest_rows.are i h ∙ overflow_any a b (omega (arith, asked.some, asked.within)) (2 ^ 24) n (row_at old at i) (asked.rising i h) g;
            })

    module _ (less : j < m) where
      pub there : at + j + 1 < length s
      there = omega (arith, above m (omega arith), d.apart.size, asked.formed.inside)

      abbrev from : ℕ
      from = get_or s (at + j) 0

      abbrev to : ℕ
      to = get_or s (at + j + 1) 0

      from_is : from ≡ get_or old (at + j) 0
      from_is = unwritten (at + j) (omega arith) (omega (arith, above m (omega arith)))

      to_is : to ≡ get_or old (at + j + 1) 0
      to_is = unwritten (at + j + 1) (omega arith) (omega (arith, above m (omega arith)))

      to_low : to ≤ end
      to_low = omega (arith, row_inside old at m end asked.formed j less, to_is)

      order : from ≤ to
      order = omega (arith, asked.formed.rises j less, from_is, to_is)

      from_above : at + m + 1 ≤ from
      from_above = omega (arith, above j (omega arith), from_is)

      row_is : slice from to s ≡ row_at old at j
      unfolding row_at
      row_is =
          slice_same from to s old (omega (arith, to_low, d.apart.size, asked.formed.inside)) (omega (arith, to_low, asked.formed.inside))
          (λ c h g. unwritten c (omega (arith, from_above)) (omega (arith, to_low)))
          ∙ ap₂ (λ (f t : ℕ). slice f t old) from_is to_is

      pub row_asked : RowAsked s from to a b k r
      row_asked =
          record {
            room =
                record {
                  order = order;
                  inside = omega (arith, to_low, d.apart.size, asked.formed.inside);
                  some = asked.some;
                  within = asked.within;
                  few = asked.few;
                  keys_room =
                      omega (
                        arith,
                        div-more b (k - (keys + m + 1)) (to - from) members some (omega (arith, d.whole, from_is, order, to_low, from_above)),
                        asked.keys_room,
                        keys_above,
                        rest_above,
                      );
                  rest_room = omega (arith, d.whole, from_is, order, to_low, from_above, rest_above, asked.rest_room, d.apart.size);
                  away = by_side asked.away;
                };
            rising = subst (Rising (2 ^ 24)) (sym row_is) (asked.rising j less);
          }
        where
          by_side : (end ≤ keys) ⊎ (rest + m + 1 + members ≤ at) → (to ≤ k) ⊎ (r + (to - from) ≤ from)
          by_side (inl low) = inl (omega (arith, to_low, keys_above))
          by_side (inr high) = inr (omega (arith, d.whole, from_is, order, to_low, from_above, rest_above))

      module _ (k' r' : ℕ) (mid : List ℕ) (done : RowCut from to a b k r k' r' s mid) where
        abbrev cut : CutTo from to b k r k' r' s mid
        cut = done.cut

        total : b * (k' - (keys + m + 1)) + (r' - (rest + m + 1)) ≡ to - (at + m + 1)
        total =
            cuts-add b (keys + m + 1) k k' (rest + m + 1) r r' (at + m + 1) from to keys_above cut.keys_rise rest_above cut.rest_rise from_above order
            (d.whole ∙ ap (λ (c : ℕ). c - (at + m + 1)) (sym from_is)) cut.whole

        k_low : k' ≤ rest
        k_low =
            let few : (k' - (keys + m + 1)) + 0 / b ≤ members / b =
            div-more b (k' - (keys + m + 1)) 0 members some (omega (arith, total, to_low)) in
            omega (arith, few, asked.keys_room, cut.keys_rise, keys_above)

        r_inside : r' ≤ length s
        r_inside = omega (arith, total, to_low, asked.rest_room, d.apart.size, cut.rest_rise, rest_above)

        abbrev keys_place : ℕ
        keys_place = keys + j + 1

        abbrev rest_place : ℕ
        rest_place = rest + j + 1

        -- where the row ends fits its places, and they are there
        pub ends_fit : (k' < 2 ^ 32) × (r' < 2 ^ 32) × (keys_place < length mid) × (rest_place < length mid)
        ends_fit = (
          omega (arith, k_low, r_inside, rest_above, cut.rest_rise, asked.fits, d.apart.size),
          omega (arith, r_inside, asked.fits, d.apart.size),
          omega (arith, keys_above, d.keys_rows.inside, cut.size),
          omega (arith, rest_above, d.rest_rows.inside, cut.size),
        )

        abbrev new : List ℕ
        new = set (set mid keys_place k') rest_place r'

        differ : rest_place ≡ keys_place → ⊥
        differ q = omega (arith, d.keys_low, keys_above)

        k_rows : RowsTo keys m (j + 1) k' (keys_of old at m a b keys rest) new
        k_rows =
            subst (RowsTo keys m (j + 1) k' (keys_of old at m a b keys rest)) (set_comm mid rest_place keys_place r' k' differ)
            (rows_more keys m (keys_of old at m a b keys rest) j k k' s (set mid rest_place r') d.keys_rows less
            (λ c h g. get_or-set_other mid rest_place c r' 0 (λ q. omega (arith, d.keys_low)) ∙ cut.before c g)
            cut.keys_rise inside
            (slice_same k k' (set mid rest_place r') mid inside (rw (length-set mid rest_place r') at inside)
            (λ c h g. get_or-set_other mid rest_place c r' 0 (λ q. omega (arith, k_low)))
            ∙ done.clumps (2 ^ 24) (subst (Rising (2 ^ 24)) (sym row_is) (asked.rising j less))
            ∙ ap (λ (u : List ℕ). map (key_in a) (clumps_of (level a b) (2 ^ 24) u)) row_is))
          where
            inside : k' ≤ length (set mid rest_place r')
            inside = rw (length-set mid rest_place r') (omega (arith, k_low, r_inside, cut.size, cut.rest_rise, rest_above))

        r_rows : RowsTo rest m (j + 1) r' (rest_of old at m a b keys rest) new
        r_rows =
            rows_more rest m (rest_of old at m a b keys rest) j r r' s (set mid keys_place k') d.rest_rows less
            (λ c h g. get_or-set_other mid keys_place c k' 0 (λ q. omega (arith, d.keys_low, keys_above)) ∙ cut.between c (omega (arith, k_low)) g)
            cut.rest_rise inside
            (slice_same r r' (set mid keys_place k') mid inside (rw (length-set mid keys_place k') at inside)
            (λ c h g. get_or-set_other mid keys_place c k' 0 (λ q. omega (arith, d.keys_low, keys_above, rest_above)))
            ∙ done.overflow (2 ^ 24) (subst (Rising (2 ^ 24)) (sym row_is) (asked.rising j less))
            ∙ ap (overflow_of (level a b) (2 ^ 24)) row_is)
          where
            inside : r' ≤ length (set mid keys_place k')
            inside = rw (length-set mid keys_place k') (omega (arith, r_inside, cut.size))

        pub more_cut : Done (j + 1) k' r' new
        more_cut =
            let q : at + (j + 1) ≡ at + j + 1 = omega arith in
            record {
              keys_rows = k_rows;
              rest_rows = r_rows;
              apart =
                  record {
                    size = length-set (set mid keys_place k') rest_place r' ∙ length-set mid keys_place k' ∙ cut.size ∙ d.apart.size;
                    before = λ c h.
                        other c (λ e. omega (arith, d.keys_low, keys_above)) (λ e. omega arith)
                        ∙ cut.before c (omega (arith, keys_above))
                        ∙ d.apart.before c h;
                    behind = λ c h.
                        other c (λ e. omega (arith, cut.rest_rise, rest_above)) (λ e. omega (arith, cut.rest_rise, rest_above, d.keys_low, keys_above))
                        ∙ cut.behind c h
                        ∙ d.apart.behind c (omega (arith, cut.rest_rise));
                  };
              keys_low = k_low;
              whole = rw q (total ∙ ap (λ (c : ℕ). c - (at + m + 1)) to_is);
            }
          where
            other : (c : ℕ) → (c ≡ rest_place → ⊥) → (c ≡ keys_place → ⊥) → get_or new c 0 ≡ get_or mid c 0
            other c h g = get_or-set_other (set mid keys_place k') rest_place c r' 0 h ∙ get_or-set_other mid keys_place c k' 0 g

  -- the first places set
  abbrev keys_first : ℕ
  keys_first = keys + m + 1

  abbrev rest_first : ℕ
  rest_first = rest + m + 1

  abbrev placed : List ℕ
  placed = set (set old keys keys_first) rest rest_first

  long : length placed ≡ length old
  long = length-set (set old keys keys_first) rest rest_first ∙ length-set old keys keys_first

  other : (c : ℕ) → (c ≡ rest → ⊥) → (c ≡ keys → ⊥) → get_or placed c 0 ≡ get_or old c 0
  other c h g = get_or-set_other (set old keys keys_first) rest c rest_first 0 h ∙ get_or-set_other old keys c keys_first 0 g

  kept : (c : ℕ) → at ≤ c → c < end → get_or placed c 0 ≡ get_or old c 0
  kept c h g = by_side asked.away
    where
      by_side : (end ≤ keys) ⊎ (rest + m + 1 + members ≤ at) → get_or placed c 0 ≡ get_or old c 0
      by_side (inl low) = other c (λ e. omega (arith, asked.keys_room)) (λ e. omega arith)
      by_side (inr high) = other c (λ e. omega arith) (λ e. omega (arith, asked.keys_room))

  end_is : get_or placed (at + m) 0 ≡ end
  end_is = kept (at + m) (omega arith) (omega (arith, above m (omega arith)))

  row_same : (j : ℕ) → j < m → row_at placed at j ≡ row_at old at j
  row_same = row_kept old at m end asked.formed placed kept (omega (arith, long, asked.formed.inside))

  pub places_there : (keys < length old) × (rest < length old)
  places_there = (omega (arith, asked.keys_room, asked.rest_room), omega (arith, asked.rest_room))

  pub places-set : Placed placed at m l keys rest
  places-set =
      record {
        asked =
            record {
              formed = rw end_is (rows_kept old at m end asked.formed placed kept (omega (arith, long, asked.formed.inside))).0;
              rising = λ j h. subst (Rising (2 ^ 24)) (sym (row_same j h)) (asked.rising j h);
              some = asked.some;
              within = asked.within;
              few = asked.few;
              keys_room = rw end_is asked.keys_room;
              rest_room = rw (end_is, long) asked.rest_room;
              away = rw end_is asked.away;
              fits = rw long asked.fits;
            };
        keys_first_lem =
            get_or-set_other (set old keys keys_first) rest keys rest_first 0 (λ e. omega (arith, asked.keys_room))
            ∙ get_or-set_same old keys keys_first 0 places_there.0;
        rest_first_lem = get_or-set_same (set old keys keys_first) rest rest_first 0 (rw (length-set old keys keys_first) places_there.1);
      }

  pub rows_done : (e : Ends) (new : List ℕ) → RowsCut at m l keys rest e placed new → RowsCut at m l keys rest e old new
  rows_done e new d =
      let far : rest + m + 1 ≤ e.rest = omega (arith, place_above new rest m e.rest d.rest_formed m (omega arith), d.rest_formed.last) in
      record {
        apart =
            record {
              size = d.apart.size ∙ long;
              before = λ c h. d.apart.before c h ∙ other c (λ q. omega (arith, asked.keys_room)) (λ q. omega arith);
              behind = λ c h. d.apart.behind c h ∙ other c (λ q. omega arith) (λ q. omega (arith, asked.keys_room));
            };
        keys_formed = d.keys_formed;
        rest_formed = d.rest_formed;
        whole = d.whole ∙ ap (λ (c : ℕ). c - (at + m + 1)) end_is;
        keys_low = d.keys_low;
        clumps = λ n j h g.
            d.clumps n j h (subst (Rising n) (sym (row_same j h)) g) ∙ ap (λ (u : List ℕ). map (key_in a) (clumps_of (level a b) n u)) (row_same j h);
        overflow = λ n j h g.
            d.overflow n j h (subst (Rising n) (sym (row_same j h)) g) ∙ ap (overflow_of (level a b) n) (row_same j h);
      }
