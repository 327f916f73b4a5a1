-- A part's keys are the 2^a numbers behind those of the parts before it, and the heavier a clump the lower its key: so keys rise as clumps stand in
-- order, and a key gives its clump back.
use mathlib.Core.Path.{◌≡◌, sym, ap, ap₂, subst, ◌∙◌}
use mathlib.Core.Bool.{false}
use mathlib.Core.List.{List, [], ◌∷◌}
use Prim.Native.Nat.{ℕ, ◌+◌, ◌-◌, ◌*◌, ◌^◌, ◌≤◌, ◌<◌}
use native.Mathlib.Nat.{add-mul, one-mul, mul-le-mul_right}
use native.Mathlib.Decide.{dec_lt}
use native.Mathlib.Omega.{arith}
use lib.ListN.{length}
use lib.Pow.{pow_pos}
use Rattle.chain.specs.Tests.{◌<?◌}
use Rattle.chain.proofs.Rules.{lt_yes, lt_no, eq_no, or_left}
use Rattle.digits.proofs.Blocks.{block_div, block_mod}
use Rattle.clumps.proofs.Lists.{false_or}
use Rattle.clumps.specs.Lists.{precedes}
use Rattle.keys.specs.Inner.{Climbs, weight_of, members_of, key_of, clump_of}
use Rattle.keys.proofs.Weights.{weight_low, weight_order}
use Rattle.keys.proofs.Members.{members_are}

-- in part k of a
abbrev pub InPart : ℕ → ℕ → List ℕ → Type 0
InPart a k u = Climbs (k * a) ((k + 1) * a) u

module _ (a : ℕ) where
  next : (k m : ℕ) → (k + 1) * m ≡ k * m + m
  next k m = add-mul k 1 m ∙ ap (λ (x : ℕ). k * m + x) (one-mul m)

  more : (k l : ℕ) → k < l → k + 1 ≤ l
  more k l h = omega arith

  light : (k : ℕ) (u : List ℕ) → InPart a k u → weight_of ((k + 1) * a) u < 2 ^ a
  light k u c =
      let e : (k + 1) * a - k * a ≡ a = omega (arith, next k a) in
      subst (λ (n : ℕ). weight_of ((k + 1) * a) u < 2 ^ n) e (weight_low (k * a) ((k + 1) * a) u (omega (arith, next k a)) c)

  -- where it stands among the keys of its part
  key_is : (k : ℕ) (u : List ℕ) → InPart a k u → key_of a k u ≡ k * 2 ^ a + (2 ^ a - 1 - weight_of ((k + 1) * a) u)
  key_is k u c = omega (arith, next k (2 ^ a), light k u c)

  pub key_low : (k P : ℕ) (u : List ℕ) → InPart a k u → k < P → key_of a k u < P * 2 ^ a
  key_low k P u c h = omega (arith, key_is k u c, light k u c, next k (2 ^ a), mul-le-mul_right (2 ^ a) (more k P h))

  pub key_high : (k : ℕ) (u : List ℕ) → InPart a k u → k * 2 ^ a ≤ key_of a k u
  key_high k u c = omega (arith, key_is k u c)

  pub key_rises : (k : ℕ) (u v : List ℕ) → InPart a k u → InPart a k v → weight_of ((k + 1) * a) v < weight_of ((k + 1) * a) u → key_of a k u < key_of a k v
  key_rises k u v c d h = omega (arith, key_is k u c, key_is k v d, light k u c, light k v d)

  -- a key gives its clump back
  pub clump_of_key : (k : ℕ) (u : List ℕ) → InPart a k u → clump_of a (key_of a k u) ≡ u
  clump_of_key k u c =
      ap (clump_of a) (key_is k u c)
      ∙ ap₂ (λ (p r : ℕ). members_of ((p + 1) * a) a (2 ^ a - 1 - r)) (block_div k (2 ^ a) over (omega (arith, pow_pos a))) (block_mod k (2 ^ a) over (omega (arith, pow_pos a)))
      ∙ ap (members_of to a) weight
      ∙ members_are to a u (omega (arith, next k a)) (subst (λ (n : ℕ). Climbs n to u) from c)
    where
      to : ℕ
      to = (k + 1) * a

      over : ℕ
      over = 2 ^ a - 1 - weight_of to u

      weight : 2 ^ a - 1 - over ≡ weight_of to u
      weight = omega (arith, light k u c)

      from : k * a ≡ to - a
      from = omega (arith, next k a)

  -- clumps of one part are in order as their keys are
  within : (k : ℕ) (u v : List ℕ) → InPart a k u → InPart a k v → length u ≡ length v → precedes u v ≡ (key_of a k u <? key_of a k v)
  within k u v c d e = weight_order to (k * a) u v c d e ∙ by_weight (dec_lt (weight_of to v) (weight_of to u))
    where
      to : ℕ
      to = (k + 1) * a

      by_weight : Dec (weight_of to v < weight_of to u) → (weight_of to v <? weight_of to u) ≡ (key_of a k u <? key_of a k v)
      by_weight (yes h) = lt_yes _ _ h ∙ sym (lt_yes _ _ (key_rises k u v c d h))
      by_weight (no h) = lt_no _ _ (omega arith) ∙ sym (lt_no _ _ (omega (arith, key_is k u c, key_is k v d, light k u c, light k v d)))

  -- those of different parts are too
  apart : (k l : ℕ) (u v : List ℕ) → InPart a k u → InPart a l v → k < l → key_of a k u < key_of a l v
  apart k l u v c d h =
      omega (arith, key_low k l u c h, key_is l v d)

  first_below : (k l x y : ℕ) → x < (k + 1) * a → l * a ≤ y → k < l → x < y
  first_below k l x y h g lt = omega (arith, mul-le-mul_right a (more k l lt))

  pub key_order : (k l : ℕ) (u v : List ℕ) → InPart a k u → InPart a l v → length u ≡ length v → 0 < length u → precedes u v ≡ (key_of a k u <? key_of a l v)
  key_order k l [] v c d e some = absurd (omega (arith, some))
  key_order k l (x ∷ u) [] c d e some = absurd (omega (arith, e))
  key_order k l (x ∷ u) (y ∷ v) c d e some = by_part (dec_lt k l) (dec_lt l k)
    where
      by_part : Dec (k < l) → Dec (l < k) → precedes (x ∷ u) (y ∷ v) ≡ (key_of a k (x ∷ u) <? key_of a l (y ∷ v))
      by_part (yes lt) g =
          or_left (x <? y) _ (lt_yes x y (first_below k l x y c.1 d.0 lt)) ∙ sym (lt_yes _ _ (apart k l (x ∷ u) (y ∷ v) c d lt))
      by_part (no ge) (yes gt) =
          let far = first_below l k y x d.1 c.0 gt in
          rw (lt_no x y (omega arith), eq_no x y (λ s. omega arith)) (false_or false) ∙ sym (lt_no _ _ (omega (arith, apart l k (y ∷ v) (x ∷ u) d c gt)))
      by_part (no ge) (no le) =
          let s : l ≡ k = omega arith in
          within k (x ∷ u) (y ∷ v) c (subst (λ (n : ℕ). InPart a n (y ∷ v)) s d) e ∙ ap (λ (n : ℕ). key_of a k (x ∷ u) <? key_of a n (y ∷ v)) (sym s)
