-- The numbers of one part, cut: its clumps are the parts of b of what stands there, so their keys are those that are laid, and what is copied is what
-- is left behind the last of them. All numbers climb within the part, so each clump does, and its first number tells the part.
use mathlib.Core.Path.{◌≡◌, sym, ap, subst, ◌∙◌}
use mathlib.Core.Logic.{◌⊎◌, inl, inr}
use mathlib.Core.List.{List, map}
use Prim.Native.Nat.{ℕ, ◌+◌, ◌-◌, ◌*◌, ◌/◌, ◌%◌, ◌^◌, ◌≤◌, ◌<◌}
use native.Mathlib.Nat.{add-mul, one-mul, mul_comm, mul-le-mul_right, div-add-mod'}
use native.Mathlib.Omega.{arith}
use lib.ListN.{length, get_or, take, drop, length-take, length-drop}
use lib.Seq.{slice, length-slice, get_or-take, get_or-drop, drop-drop}
use Rattle.digits.specs.Range.{list_to}
use Rattle.digits.proofs.Blocks.{block_div}
use Rattle.digits.proofs.Listed.{list_same}
use Rattle.groups.specs.Groups.{group}
use Rattle.groups.proofs.Groups.{length-group}
use Rattle.clumps.specs.Clumps.{most_part, remainder}
use Rattle.clumps.proofs.Lists.{map-list}
use Rattle.rows.proofs.Lists.{slice_cell, slice_is, slice_same}
use Rattle.keys.specs.Inner.{Climbs, weight_of, key_of, key_in, KeyAsked}
use Rattle.keys.proofs.Weights.{climbs_lower, weight_low}
use Rattle.keys.proofs.Climbing.{climbs-take, climbs-drop, key_in_lem}
use Rattle.cuts.specs.Inner.{clump_from, RunAsked, RunCut, CopyAsked, Copied, CutRoom, PartAsked, PartCut}

module _ (s : List ℕ) (from to part a b keys rest : ℕ) (asked : PartAsked s from to part a b keys rest) where
  abbrev room : CutRoom s from to a b keys rest
  room = asked.room

  abbrev limit : ℕ
  limit = (part + 1) * a

  abbrev top : ℕ
  top = (part + 1) * 2 ^ a - 1

  abbrev here : List ℕ
  here = slice from to s

  abbrev n : ℕ
  n = (to - from) / b

  abbrev w : ℕ
  w = to - (to - from) % b

  parted : n * b + (to - from) % b ≡ to - from
  parted = div-add-mod' (to - from) b

  pub left_low : (to - from) % b ≤ to - from
  left_low = omega (arith, parted)

  pub taken_are : to - from - (to - from) % b ≡ n * b
  taken_are = omega (arith, parted)

  w_is : w ≡ from + n * b
  w_is = omega (arith, parted, room.order)

  count : (w - from) / b ≡ n
  count =
      let q : w - from ≡ n * b + 0 = omega (arith, w_is) in
      ap (λ (k : ℕ). k / b) q ∙ block_div n b 0 (omega (arith, room.some))

  long : length here ≡ to - from
  long = length-slice from to s room.inside

  next : (k : ℕ) → (part + 1) * k ≡ part * k + k
  next k = add-mul part 1 k ∙ ap (λ (x : ℕ). part * k + x) (one-mul k)

  -- b numbers in a row, wherever they begin
  module _ (g : ℕ) (low : from ≤ g) (high : g + b ≤ to) where
    within_is : slice g (g + b) s ≡ take b (drop (g - from) here)
    within_is =
        slice_is g (g + b) s (take b (drop (g - from) here)) (omega (arith, room.inside)) (omega (arith, full))
        (λ i h. cell i (omega (arith, full)) ∙ sym (get_or-take b (drop (g - from) here) i 0 (omega (arith, full)) ∙ get_or-drop (g - from) here i 0))
      where
        full : length (take b (drop (g - from) here)) ≡ b
        full = omega (arith, length-take b (drop (g - from) here), length-drop (g - from) here, long)

        cell : (i : ℕ) → i < b → get_or s (g + i) 0 ≡ get_or here (g - from + i) 0
        cell i h =
            let q : g + i ≡ from + (g - from + i) = omega arith in
            ap (λ (c : ℕ). get_or s c 0) q ∙ sym (slice_cell from to s (g - from + i) (omega arith))

    climbs : Climbs (part * a) limit (slice g (g + b) s)
    climbs =
        subst (Climbs (part * a) limit) (sym within_is)
        (climbs-take (part * a) limit b (drop (g - from) here) (climbs-drop (part * a) limit (g - from) here asked.climbs))

    key_asked : KeyAsked s g (g + b) limit top
    key_asked =
        let size : limit - part * a ≡ a = omega (arith, next a) in
        let light : weight_of limit (slice g (g + b) s) < 2 ^ a =
        subst (λ (k : ℕ). weight_of limit (slice g (g + b) s) < 2 ^ k) size (weight_low (part * a) limit (slice g (g + b) s) (omega (arith, next a)) climbs) in
        record {
          rises = omega arith;
          inside = omega (arith, room.inside);
          climbs = climbs_lower (limit - most_part) (part * a) limit (slice g (g + b) s) (omega (arith, next a, room.few)) climbs;
          light = omega (arith, next (2 ^ a));
        }

  end : (m : ℕ) → m < n → m * b + b ≤ n * b
  end m h =
      let more : m + 1 ≤ n = omega arith in
      omega (arith, mul-le-mul_right b more, add-mul m 1 b, one-mul b)

  -- clump m
  module _ (m : ℕ) (h : m < n) where
    inside : from + m * b + b ≤ to
    inside = omega (arith, end m h, parted, room.order)

    clump_is : clump_from s from b m ≡ group b m here
    clump_is =
        let q : from + m * b - from ≡ m * b = omega arith in
        within_is (from + m * b) (omega arith) inside ∙ ap (λ (k : ℕ). take b (drop k here)) q

    full : length (group b m here) ≡ b
    full = omega (arith, length-group b m here, long, inside)

    key_is : top - weight_of limit (clump_from s from b m) ≡ key_in a (group b m here)
    key_is =
        ap (key_of a part) clump_is
        ∙ sym (key_in_lem a part (group b m here) (omega (arith, room.some, room.within))
        (subst (Climbs (part * a) limit) clump_is (climbs (from + m * b) (omega arith) inside)) (omega (arith, full, room.some)))

  -- as many clumps as the part has, from any of its cells on
  pub run_asked : (f t : ℕ) → from ≤ f → t ≤ to → f ≤ t → t - f ≡ n * b → RunAsked s f t b limit top keys
  run_asked f t low high order size =
      record {
        some = omega (arith, room.some);
        order = order;
        even = rw many (sym size);
        inside = omega (arith, room.inside);
        room = rw many (omega (arith, room.keys_room, room.rest_room));
        away = by_side room.away;
        asked = λ m h. key_asked (f + m * b) (omega arith) (omega (arith, end m (rw many at h), size));
      }
    where
      many : (t - f) / b ≡ n
      many =
          let q : t - f ≡ n * b + 0 = omega (arith, size) in
          ap (λ (k : ℕ). k / b) q ∙ block_div n b 0 (omega (arith, room.some))

      by_side : (to ≤ keys) ⊎ (rest + (to - from) ≤ from) → (t ≤ keys) ⊎ (keys + (t - f) / b ≤ f)
      by_side (inl low) = inl (omega arith)
      by_side (inr high) = inr (omega (arith, many, room.keys_room))

  -- any of its cells copied
  pub copy_asked : (f t : ℕ) (mid : List ℕ) → from ≤ f → t ≤ to → f ≤ t → length mid ≡ length s → CopyAsked mid f t rest
  copy_asked f t mid low high order size =
      record { order = order; inside = omega (arith, room.inside); room = omega (arith, room.rest_room); away = by_side room.away }
    where
      by_side : (to ≤ keys) ⊎ (rest + (to - from) ≤ from) → (t ≤ rest) ⊎ (rest ≤ f)
      by_side (inl low) = inl (omega (arith, room.keys_room))
      by_side (inr high) = inr (omega arith)

  module _ (k : ℕ) (mid : List ℕ) (run : RunCut from w b limit top keys k s mid) where
    k_is : k ≡ keys + n
    k_is = omega (arith, run.end, count)

    pub part_cut : (r : ℕ) (new : List ℕ) → Copied w to rest r mid new → PartCut from to a b keys rest k r s new
    part_cut r new copied =
        record {
          cut =
              record {
                size = copied.apart.size ∙ run.apart.size;
                before = λ c h. copied.apart.before c (omega (arith, room.keys_room)) ∙ run.apart.before c h;
                between = λ c h g. copied.apart.before c g ∙ run.apart.behind c h;
                behind = λ c h. copied.apart.behind c h ∙ run.apart.behind c (omega (arith, k_is, room.keys_room, copied.end));
                keys_rise = omega (arith, k_is);
                keys_low = omega (arith, k_is, room.keys_room);
                rest_rise = omega (arith, copied.end);
                whole =
                    let taken_is : k - keys ≡ n = omega (arith, k_is) in
                    rw taken_is (omega (arith, mul_comm b n, parted, copied.end, w_is, room.order));
              };
          clumps =
              slice_same keys k new mid (omega (arith, k_is, inside, copied.apart.size)) (omega (arith, k_is, inside))
              (λ c h g. copied.apart.before c (omega (arith, k_is, room.keys_room)))
              ∙ run.are
              ∙ ap (λ (m : ℕ). list_to m (λ i. top - weight_of limit (clump_from s from b i))) count
              ∙ list_same n _ _ key_is
              ∙ sym (map-list (key_in a) n (λ m. group b m here))
              ∙ ap (λ (m : ℕ). map (key_in a) (list_to (m / b) (λ i. group b i here))) (sym long);
          overflow = copied.are ∙ unwritten ∙ rest_is;
        }
      where
        inside : keys + n ≤ length mid
        inside = omega (arith, room.keys_room, room.rest_room, run.apart.size)

        unwritten : slice w to mid ≡ slice w to s
        unwritten = slice_same w to mid s (omega (arith, run.apart.size, room.inside)) room.inside (λ c h g. by_side c h g room.away)
          where
            by_side : (c : ℕ) → w ≤ c → c < to → (to ≤ keys) ⊎ (rest + (to - from) ≤ from) → get_or mid c 0 ≡ get_or s c 0
            by_side c h g (inl low) = run.apart.before c (omega arith)
            by_side c h g (inr high) = run.apart.behind c (omega (arith, k_is, w_is, room.keys_room))

        rest_is : slice w to s ≡ remainder b here
        rest_is =
            ap (λ (k : ℕ). slice k to s) w_is ∙ sym (drop-drop (n * b) from (take to s)) ∙ ap (λ (m : ℕ). drop (m / b * b) here) (sym long)
