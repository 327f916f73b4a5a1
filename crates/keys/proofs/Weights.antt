-- A number weighs more than all above it together: so of two lists of one length the one that precedes has the larger weight, and equal weights are
-- those of equal lists.
use mathlib.Core.Path.{◌≡◌, refl, sym, ap, ap₂, subst, ◌∙◌}
use mathlib.Core.Bool.{false, ◌&&◌}
use mathlib.Core.List.{List, [], ◌∷◌}
use Prim.Native.Nat.{ℕ, ◌+◌, ◌-◌, ◌^◌, ◌≤◌, ◌<◌}
use native.Mathlib.Decide.{dec_lt}
use native.Mathlib.Omega.{arith}
use lib.ListN.{length}
use lib.Pow.{pow-add, pow_mono, pow_pos}
use Rattle.chain.specs.Tests.{◌<?◌, ◌=?◌, ◌or◌}
use Rattle.chain.proofs.Rules.{lt_yes, lt_no, eq_yes, eq_no, or_left}
use Rattle.clumps.proofs.Lists.{false_or}
use Rattle.clumps.specs.Lists.{precedes}
use Rattle.keys.specs.Inner.{Climbs, weight_of}

pub doubled : (n : ℕ) → 2 ^ (n + 1) ≡ 2 ^ n + 2 ^ n
doubled n = pow-add 2 n 1 ∙ omega arith

pub climbs_lower : (low from to : ℕ) (u : List ℕ) → low ≤ from → Climbs from to u → Climbs low to u
climbs_lower low from to [] h c = tt
climbs_lower low from to (x ∷ u) h c = (omega (arith, c.0), c.1, c.2)

-- all from a number on weigh less than the one before it
pub weight_low : (from to : ℕ) (u : List ℕ) → from ≤ to → Climbs from to u → weight_of to u < 2 ^ (to - from)
weight_low from to [] h c = pow_pos (to - from)
weight_low from to (x ∷ u) h c =
    let rest = weight_low (x + 1) to u (omega (arith, c.1)) c.2 in
    let own : 2 ^ (to - (x + 1)) ≡ 2 ^ (to - 1 - x) = ap (λ (n : ℕ). 2 ^ n) (omega arith) in
    let two : 2 ^ (to - x) ≡ 2 ^ (to - 1 - x) + 2 ^ (to - 1 - x) = ap (λ (n : ℕ). 2 ^ n) (omega (arith, c.1)) ∙ doubled (to - 1 - x) in
    let more : 2 ^ (to - x) ≤ 2 ^ (to - from) = pow_mono (omega (arith, c.0)) in
    omega arith

-- the list with the lower first number weighs more
heavier : (to x y : ℕ) (u v : List ℕ) → x < y → Climbs y to v → y < to → weight_of to v < weight_of to (x ∷ u)
heavier to x y u v h c g =
    let low = weight_low y to v (omega arith) c in
    let more : 2 ^ (to - y) ≤ 2 ^ (to - 1 - x) = pow_mono (omega arith) in
    omega arith

module _ (to : ℕ) where
  pub weight_order : (from : ℕ) (u v : List ℕ) → Climbs from to u → Climbs from to v → length u ≡ length v → precedes u v ≡ (weight_of to v <? weight_of to u)
  weight_order from [] [] c d e = sym (lt_no 0 0 (omega arith))
  weight_order from [] (y ∷ v) c d e = absurd (omega (arith, e))
  weight_order from (x ∷ u) [] c d e = absurd (omega (arith, e))
  weight_order from (x ∷ u) (y ∷ v) c d e =
      by_first (λ s. weight_order (x + 1) u v c.2 (subst (λ (z : ℕ). Climbs (z + 1) to v) (sym s) d.2) (omega (arith, e))) (dec_lt x y) (dec_lt y x)
    where
      w : ℕ
      w = 2 ^ (to - 1 - x)

      by_first : (x ≡ y → precedes u v ≡ (weight_of to v <? weight_of to u)) → Dec (x < y) → Dec (y < x)
          → (x <? y or ((x =? y) && precedes u v)) ≡ (weight_of to (y ∷ v) <? weight_of to (x ∷ u))
      by_first ih (yes lt) g =
          or_left (x <? y) _ (lt_yes x y lt) ∙ sym (lt_yes _ _ (heavier to x y u (y ∷ v) lt (omega arith, d.1, d.2) d.1))
      by_first ih (no ge) (yes gt) =
          rw (lt_no x y (omega arith), eq_no x y (λ s. omega arith)) (false_or false)
          ∙ sym (lt_no _ _ (omega (arith, heavier to y x v (x ∷ u) gt (omega arith, c.1, c.2) c.1)))
      by_first ih (no ge) (no le) =
          let s : x ≡ y = omega arith in
          rw (lt_no x y (omega arith), eq_yes x y s) (false_or (precedes u v))
          ∙ ih s
          ∙ shifted (weight_of to v) (weight_of to u) w
          ∙ ap (λ (z : ℕ). (2 ^ (to - 1 - z) + weight_of to v) <? (w + weight_of to u)) s
        where
          shifted : (m n k : ℕ) → (m <? n) ≡ ((k + m) <? (k + n))
          shifted m n k = by_order (dec_lt m n)
            where
              by_order : Dec (m < n) → (m <? n) ≡ ((k + m) <? (k + n))
              by_order (yes h) = lt_yes m n h ∙ sym (lt_yes (k + m) (k + n) (omega arith))
              by_order (no h) = lt_no m n (omega arith) ∙ sym (lt_no (k + m) (k + n) (omega arith))

  -- lists that weigh the same are one
  pub weight_tells : (from : ℕ) (u v : List ℕ) → Climbs from to u → Climbs from to v → weight_of to u ≡ weight_of to v → u ≡ v
  weight_tells from [] [] c d e = refl
  weight_tells from [] (y ∷ v) c d e = absurd (omega (arith, e, pow_pos (to - 1 - y)))
  weight_tells from (x ∷ u) [] c d e = absurd (omega (arith, e, pow_pos (to - 1 - x)))
  weight_tells from (x ∷ u) (y ∷ v) c d e = by_first (weight_tells (x + 1) u v c.2) (dec_lt x y) (dec_lt y x)
    where
      by_first : (Climbs (x + 1) to v → weight_of to u ≡ weight_of to v → u ≡ v) → Dec (x < y) → Dec (y < x) → x ∷ u ≡ y ∷ v
      by_first ih (yes lt) g = absurd (omega (arith, e, heavier to x y u (y ∷ v) lt (omega arith, d.1, d.2) d.1))
      by_first ih (no ge) (yes gt) = absurd (omega (arith, e, heavier to y x v (x ∷ u) gt (omega arith, c.1, c.2) c.1))
      by_first ih (no ge) (no le) =
          let s : x ≡ y = omega arith in
          let same : 2 ^ (to - 1 - x) ≡ 2 ^ (to - 1 - y) = ap (λ (z : ℕ). 2 ^ (to - 1 - z)) s in
          ap₂ ◌∷◌ s (ih (subst (λ (z : ℕ). Climbs (z + 1) to v) (sym s) d.2) (omega (arith, e)))
