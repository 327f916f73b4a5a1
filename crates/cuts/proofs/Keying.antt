-- The keys of clumps that follow one another, one a turn: as many are laid as clumps were passed, and each clump stands as it was where none is written.
use mathlib.Core.Path.{◌≡◌, sym, ap, subst, ◌∙◌}
use mathlib.Core.Logic.{◌⊎◌, inl, inr}
use mathlib.Core.List.{List}
use Prim.Native.Nat.{ℕ, ◌+◌, ◌-◌, ◌*◌, ◌/◌, ◌≤◌, ◌<◌}
use native.Mathlib.Nat.{add-mul, one-mul, mul-le-mul_right}
use native.Mathlib.Decide.{dec_lt}
use native.Mathlib.Omega.{arith}
use lib.ListN.{length, get_or, set}
use lib.Seq.{slice}
use Rattle.clumps.specs.Clumps.{most_part}
use Rattle.rows.proofs.Lists.{slice_same}
use Rattle.keys.specs.Inner.{Climbs, weight_of, KeyAsked}
use Rattle.cuts.specs.Inner.{clump_from, RunAsked, RunCut}
use Rattle.cuts.proofs.Laying.{Laid, lay_more}

module _ (old : List ℕ) (from to b limit top r : ℕ) where
  abbrev count : ℕ
  count = (to - from) / b

  abbrev key_at : ℕ → ℕ
  key_at m = top - weight_of limit (clump_from old from b m)

  pub record KeysTo (e i : ℕ) (s : List ℕ) : Type 0 where
    pub within : e - r ≤ count
    pub at : i ≡ from + (e - r) * b
    pub laid : Laid key_at r old e s

  module _ (asked : RunAsked old from to b limit top r) (e i : ℕ) (s : List ℕ) (d : KeysTo e i s) where
    abbrev m : ℕ
    m = e - r

    next : (m + 1) * b ≡ m * b + b
    next = add-mul m 1 b ∙ ap (λ (n : ℕ). m * b + n) (one-mul b)

    reach : to ≡ from + count * b
    reach = omega (arith, asked.even, asked.order)

    module _ (h : i < to) where
      left : m < count
      left = by_place (dec_lt m count)
        where
          by_place : Dec (m < count) → m < count
          by_place (yes lt) = lt
          by_place (no ge) =
              let far : count * b ≤ m * b = mul-le-mul_right b (omega arith) in
              absurd (omega (arith, reach, d.at))

      pub keys_inside : i + b ≤ to
      keys_inside =
          let more : m + 1 ≤ count = omega (arith, left) in
          omega (arith, mul-le-mul_right b more, reach, next, d.at)

      pub keys_room : e < length s
      keys_room = omega (arith, left, d.laid.apart.size, d.laid.after, asked.room)

      same : slice i (i + b) s ≡ clump_from old from b m
      same =
          slice_same i (i + b) s old (omega (arith, keys_inside, d.laid.apart.size, asked.inside)) (omega (arith, keys_inside, asked.inside))
          (λ c g k. unwritten c g k asked.away)
          ∙ ap (λ (n : ℕ). slice n (n + b) old) d.at
        where
          unwritten : (c : ℕ) → i ≤ c → c < i + b → (to ≤ r) ⊎ (r + count ≤ from) → get_or s c 0 ≡ get_or old c 0
          unwritten c g k (inl low) = d.laid.apart.before c (omega (arith, keys_inside))
          unwritten c g k (inr high) = d.laid.apart.behind c (omega (arith, d.at, d.within, d.laid.after))

      pub key_asked : KeyAsked s i (i + b) limit top
      key_asked =
          let a = asked.asked m left in
          record {
            rises = omega arith;
            inside = omega (arith, keys_inside, d.laid.apart.size, asked.inside);
            climbs = subst (Climbs (limit - most_part) limit) (sym same) a.climbs;
            light = subst (λ (u : List ℕ). weight_of limit u ≤ top) (sym same) a.light;
          }

      pub keys_more : (x : ℕ) → x ≡ top - weight_of limit (slice i (i + b) s) → KeysTo (e + 1) (i + b) (set s e x)
      keys_more x is =
          let n : e + 1 - r ≡ m + 1 = omega (arith, d.laid.after) in
          record {
            within = omega (arith, left);
            at = rw n (omega (arith, next, d.at));
            laid =
                lay_more key_at r old e x s d.laid (omega (arith, keys_room, d.laid.apart.size))
                (is ∙ ap (λ (u : List ℕ). top - weight_of limit u) same);
          }

    pub keys_all : to ≤ i → RunCut from to b limit top r e old s
    keys_all h =
        let all : e ≡ r + count = omega (arith, d.within, d.laid.after, whole (dec_lt m count)) in
        let n : e - r ≡ count = omega arith in
        record { apart = d.laid.apart; end = all; are = rw n at d.laid.are }
      where
        whole : Dec (m < count) → count ≤ m
        whole (no ge) = omega arith
        whole (yes lt) =
            let more : m + 1 ≤ count = omega arith in
            absurd (omega (arith, mul-le-mul_right b more, reach, next, d.at, asked.some))
