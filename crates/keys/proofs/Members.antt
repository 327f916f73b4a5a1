-- The numbers of a weight, found from the heaviest on: a number is one of them exactly if what is left weighs as much as it does.
use mathlib.Core.Path.{◌≡◌, refl, ap, ap₂, subst, ◌∙◌}
use mathlib.Core.List.{List, [], ◌∷◌}
use Prim.Native.Nat.{ℕ, zero, suc, ◌+◌, ◌-◌, ◌^◌, ◌≤◌, ◌<◌}
use native.Mathlib.Decide.{dec_lt}
use native.Mathlib.Omega.{arith}
use lib.Pow.{pow_pos}
use Rattle.chain.proofs.Rules.{le_yes, le_no}
use Rattle.keys.specs.Inner.{Climbs, weight_of, members_of}
use Rattle.keys.proofs.Weights.{weight_low}

module _ (to : ℕ) where
  pub taken : (n w : ℕ) → 2 ^ n ≤ w → members_of to (suc n) w ≡ (to - 1 - n) ∷ members_of to n (w - 2 ^ n)
  taken n w h = rw (le_yes (2 ^ n) w h)

  pub passed : (n w : ℕ) → w < 2 ^ n → members_of to (suc n) w ≡ members_of to n w
  passed n w h = rw (le_no (2 ^ n) w h)

  pub members_are : (n : ℕ) (u : List ℕ) → n ≤ to → Climbs (to - n) to u → members_of to n (weight_of to u) ≡ u
  members_are zero [] h c = refl
  members_are zero (x ∷ u) h c = absurd (omega (arith, c.0, c.1))
  members_are (suc n) [] h c = passed n 0 (pow_pos n) ∙ members_are n [] (omega arith) tt
  members_are (suc n) (x ∷ u) h c = by_place (members_are n (x ∷ u) (omega arith)) (members_are n u (omega arith)) (dec_lt (to - suc n) x)
    where
      by_place : (Climbs (to - n) to (x ∷ u) → members_of to n (weight_of to (x ∷ u)) ≡ x ∷ u) → (Climbs (to - n) to u → members_of to n (weight_of to u) ≡ u)
          → Dec (to - suc n < x) → members_of to (suc n) (weight_of to (x ∷ u)) ≡ x ∷ u
      by_place on rest (yes above) =
          let higher : Climbs (to - n) to (x ∷ u) = (omega (arith, c.0), c.1, c.2) in
          let e : to - (to - n) ≡ n = omega arith in
          passed n (weight_of to (x ∷ u)) (subst (λ (k : ℕ). weight_of to (x ∷ u) < 2 ^ k) e (weight_low (to - n) to (x ∷ u) (omega arith) higher)) ∙ on higher
      by_place on rest (no here) =
          let own : to - 1 - n ≡ x = omega (arith, c.0) in
          let place : to - 1 - x ≡ n = omega (arith, c.0) in
          let weight : weight_of to (x ∷ u) ≡ 2 ^ n + weight_of to u = ap (λ (k : ℕ). 2 ^ k + weight_of to u) place in
          let left : 2 ^ n + weight_of to u - 2 ^ n ≡ weight_of to u = omega arith in
          let next : x + 1 ≡ to - n = omega (arith, c.0) in
          ap (members_of to (suc n)) weight
          ∙ taken n (2 ^ n + weight_of to u) (omega arith)
          ∙ ap₂ ◌∷◌ own (ap (members_of to n) left ∙ rest (subst (λ (k : ℕ). Climbs k to u) next c.2))
