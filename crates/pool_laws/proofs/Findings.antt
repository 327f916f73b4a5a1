-- A verdict that tells the first of many places at which something holds: over two lists of places in a row it is that of the first list, then that of the
-- second, counted on.
use mathlib.Core.Path.{◌≡◌, refl, sym, subst}
use mathlib.Core.Logic.{◌↔◌}
use Prim.Native.Nat.{ℕ, zero, suc, ◌+◌, ◌-◌, ◌≤◌, ◌<◌}
use native.Mathlib.Decide.{dec_le}
use native.Mathlib.Omega.{arith}
use Rattle.chain.specs.Verdict.{Verdict, fine, refused, ◌then◌, refuse_at}
use Rattle.chain.proofs.Rules.{not_fine}
use Rattle.verify.proofs.First.{First, InSome}
use Rattle.pool.specs.Pool.{counted}

-- nothing found at the places 1 to count, or a refusal at the first at which B holds
pub data Finding (number count : ℕ) (B : ℕ → Type 0) : Verdict → Type 0 where
  nothing : ((t : ℕ) → 1 ≤ t → t ≤ count → B t → ⊥) → Finding number count B fine
  found : (s : ℕ) → First count B s → Finding number count B (refused number s)

-- a place k, or none, that is refused exactly where it is the first
module _ (number count : ℕ) (B : ℕ → Type 0) where
  abbrev pub Told : ℕ → Type 0
  Told k = (s : ℕ) → refuse_at number k ≡ refused number s ↔ First count B s

  nowhere : Told 0 → (k t : ℕ) → k ≤ count → 1 ≤ t → t ≤ k → B t → ⊥
  unfolding refuse_at
  nowhere told zero t h g l x = omega arith
  nowhere told (suc k) t h g l x = by_place (nowhere told k) (dec_le t k)
    where
      by_place : ((t : ℕ) → k ≤ count → 1 ≤ t → t ≤ k → B t → ⊥) → Dec (t ≤ k) → ⊥
      by_place before (yes le) = before t (omega arith) g le x
      by_place before (no gt) =
          not_fine
          (sym ((told t).1 (record { some = g; inside = omega arith; here = x; before = λ u i j. before u (omega arith) i (omega arith) })))

  pub finding : (k : ℕ) → Told k → Finding number count B (refuse_at number k)
  unfolding refuse_at
  finding zero told = nothing (λ t h g. nowhere told count t (omega arith) h g)
  finding (suc k) told = found (suc k) ((told (suc k)).0 refl)

  -- the verdict is the one whose finding is known
  pub told_finding : (k : ℕ) → Told k → {v : Verdict} → Finding number count B v → refuse_at number k ≡ v
  unfolding refuse_at
  told_finding zero told (nothing none) = refl
  told_finding (suc k) told (nothing none) = let f = (told (suc k)).0 refl in absurd (none (suc k) f.some f.inside f.here)
  told_finding k told (found s f) = (told s).1 f

-- two lists of places in a row
module _ (number count count' : ℕ) (B B' P : ℕ → Type 0) (first_part : (t : ℕ) → 1 ≤ t → t ≤ count → P t ↔ B t)
    (second-part : (t : ℕ) → 1 ≤ t → t ≤ count' → P (count + t) ↔ B' t) where
  neither_part : (limit : ℕ) → ((t : ℕ) → 1 ≤ t → t ≤ count → B t → ⊥) → ((t : ℕ) → 1 ≤ t → t < limit → B' t → ⊥)
      → (t : ℕ) → 1 ≤ t → t < count + limit → t ≤ count + count' → P t → ⊥
  neither_part limit none none' t h g l x = by_place (dec_le t count)
    where
      by_place : Dec (t ≤ count) → ⊥
      by_place (yes le) = none t h le ((first_part t h le).0 x)
      by_place (no gt) =
          let u : ℕ = t - count in
          let e : t ≡ count + u = omega arith in
          none' u (omega arith) (omega arith) ((second-part u (omega arith) (omega arith)).0 (subst P e x))

  pub both_parts : {v v' : Verdict} → Finding number count B v → Finding number count' B' v' → Finding number (count + count') P (v then counted count v')
  unfolding ◌then◌ counted
  both_parts (found s f) second =
      found s
      (record {
        some = f.some;
        inside = omega (arith, f.inside);
        here = (first_part s f.some f.inside).1 f.here;
        before = λ t h g x. f.before t h g ((first_part t h (omega (arith, f.inside))).0 x);
      })
  both_parts (nothing none) (found s f) =
      found (count + s)
      (record {
        some = omega (arith, f.some);
        inside = omega (arith, f.inside);
        here = (second-part s f.some f.inside).1 f.here;
        before = λ t h g. neither_part s none f.before t h g (omega (arith, f.inside));
      })
  both_parts (nothing none) (nothing none') =
      nothing (λ t h g. neither_part (suc count') none (λ u i j. none' u i (omega arith)) t h (omega arith) g)

-- what holds of two numbers in some column holds of equal ones
pub in_same : (p : ℕ) (R : ℕ → ℕ → Type 0) (x y x' y' : ℕ → ℕ) → ((c : ℕ) → c < p → x c ≡ x' c) → ((c : ℕ) → c < p → y c ≡ y' c)
    → InSome p (λ c. R (x c) (y c)) ↔ InSome p (λ c. R (x' c) (y' c))
in_same p R x y x' y' e d = (one_way x y x' y' e d, one_way x' y' x y (λ c h. sym (e c h)) (λ c h. sym (d c h)))
  where
    one_way : (x y x' y' : ℕ → ℕ) → ((c : ℕ) → c < p → x c ≡ x' c) → ((c : ℕ) → c < p → y c ≡ y' c)
        → InSome p (λ c. R (x c) (y c)) → InSome p (λ c. R (x' c) (y' c))
    one_way x y x' y' e d i =
        let c : ℕ = i.column in
        record {
          column = c;
          below = i.below;
          there = subst (λ (k : ℕ). R k (y' c)) (e c i.below) (subst (R (x c)) (d c i.below) i.there);
        }
