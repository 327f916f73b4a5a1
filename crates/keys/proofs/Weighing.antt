-- A clump weighed number by number: the key so far is the whole key and what the numbers that are left weigh.
use mathlib.Core.Path.{◌≡◌, sym, ap, subst, ◌∙◌}
use mathlib.Core.List.{List, ◌∷◌}
use Prim.Native.Nat.{ℕ, ◌+◌, ◌-◌, ◌^◌, ◌≤◌, ◌<◌}
use native.Mathlib.Numerals.{add-one}
use native.Mathlib.Omega.{arith}
use lib.ListN.{length, get_or, drop, drop_of_length-le}
use lib.Seq.{drop-cons}
use Rattle.clumps.specs.Clumps.{most_part}
use Rattle.keys.specs.Inner.{Climbs, weight_of}
use Rattle.keys.proofs.Weights.{climbs_lower}

module _ (u : List ℕ) (limit top : ℕ) where
  pub record Weighed (k i : ℕ) : Type 0 where
    pub climbs : Climbs (limit - most_part) limit (drop i u)
    pub left : k ≡ top - weight_of limit u + weight_of limit (drop i u)

  pub weighed_none : Climbs (limit - most_part) limit u → weight_of limit u ≤ top → Weighed top 0
  weighed_none climbs light = record { climbs = climbs; left = omega (arith, light) }

  module _ (k i : ℕ) (d : Weighed k i) (h : i < length u) where
    abbrev x : ℕ
    x = get_or u i 0

    parted : drop i u ≡ x ∷ drop (i + 1) u
    parted = drop-cons u i 0 h ∙ ap (λ (j : ℕ). x ∷ drop j u) (sym (add-one i))

    turn : (limit - most_part ≤ x) × (x < limit) × Climbs (x + 1) limit (drop (i + 1) u)
    turn = subst (Climbs (limit - most_part) limit) parted d.climbs

    pub weighed_below : x < limit
    weighed_below = turn.1

    pub weighed_on : Weighed (k - 2 ^ (limit - 1 - x)) (i + 1)
    weighed_on =
        record {
          climbs = climbs_lower (limit - most_part) (x + 1) limit (drop (i + 1) u) (omega (arith, turn.0)) turn.2;
          left = omega (arith, d.left, ap (weight_of limit) parted);
        }

  pub weighed_all : (k i : ℕ) → Weighed k i → length u ≤ i → k ≡ top - weight_of limit u
  weighed_all k i d h =
      let none : weight_of limit (drop i u) ≡ 0 = ap (weight_of limit) (drop_of_length-le u h) in
      omega (arith, d.left)
