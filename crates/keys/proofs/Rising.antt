-- Numbers that climb from 0 are rising ones, and the other way: said number by number, or place by place.
use mathlib.Core.Path.{◌≡◌}
use mathlib.Core.List.{List, [], ◌∷◌}
use Prim.Native.Nat.{ℕ, zero, suc, ◌+◌, ◌≤◌, ◌<◌}
use native.Mathlib.Numerals.{add-one}
use native.Mathlib.Omega.{arith}
use lib.ListN.{length, get_or}
use Rattle.rows.specs.Inner.{Rising}
use Rattle.keys.specs.Inner.{Climbs}

climbs_at : (lo hi : ℕ) (l : List ℕ) → Climbs lo hi l → (i : ℕ) → i < length l → (lo ≤ get_or l i 0) × (get_or l i 0 < hi)
climbs_at lo hi [] c i h = absurd (omega arith)
climbs_at lo hi (x ∷ l) c zero h = (c.0, c.1)
climbs_at lo hi (x ∷ l) c (suc i) h =
    let rest = climbs_at (x + 1) hi l c.2 i (omega arith) in
    (omega (arith, rest.0, c.0), rest.1)

climbs_up : (lo hi : ℕ) (l : List ℕ) → Climbs lo hi l → (i : ℕ) → suc i < length l → get_or l i 0 < get_or l (suc i) 0
climbs_up lo hi [] c i h = absurd (omega arith)
climbs_up lo hi (x ∷ l) c zero h = omega (arith, (climbs_at (x + 1) hi l c.2 0 (omega arith)).0)
climbs_up lo hi (x ∷ l) c (suc i) h = climbs_up (x + 1) hi l c.2 i (omega arith)

pub climbs_rising : (n : ℕ) (l : List ℕ) → Climbs 0 n l → Rising n l
climbs_rising n l c =
    record { rises = λ i h. rw (add-one i) (climbs_up 0 n l c i (rw (add-one i) at h)); below = λ i h. (climbs_at 0 n l c i h).1 }

rising_from : (lo n : ℕ) (l : List ℕ) → Rising n l → (0 < length l → lo ≤ get_or l 0 0) → Climbs lo n l
rising_from lo n [] r h = tt
rising_from lo n (x ∷ l) r h = (
  h (omega arith),
  r.below 0 (omega arith),
  rising_from (x + 1) n l
      (record { rises = λ i g. next i (r.rises (suc i) (omega arith)); below = λ i g. r.below (suc i) (omega arith) })
      (λ some. first (r.rises 0 (omega arith))),
)
  where
    first : get_or (x ∷ l) 0 0 < get_or (x ∷ l) (0 + 1) 0 → x + 1 ≤ get_or l 0 0
    first up = omega (arith, up)

    next : (i : ℕ) → get_or (x ∷ l) (suc i) 0 < get_or (x ∷ l) (suc i + 1) 0 → get_or l i 0 < get_or l (i + 1) 0
    next i up =
        let e : suc i + 1 ≡ suc (i + 1) = omega arith in
        rw e at up

pub rising_climbs : (n : ℕ) (l : List ℕ) → Rising n l → Climbs 0 n l
rising_climbs n l r = rising_from 0 n l r (λ some. omega arith)
