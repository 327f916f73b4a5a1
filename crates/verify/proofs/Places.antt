-- Places with 0 for none: the earliest of many is none exactly if each is, and one column more takes the earlier of two.
use mathlib.Core.Path.{◌≡◌, refl, sym, ap, ap₂, ◌∙◌}
use Prim.Native.Nat.{ℕ, zero, suc, ◌+◌, ◌≤◌, ◌<◌}
use native.Mathlib.Decide.{dec_lt}
use native.Mathlib.Numerals.{add-one}
use native.Mathlib.Omega.{arith}
use Rattle.verify.specs.Verify.{earlier, earliest}

-- the earlier place from what the tests find
pub earlier_second : (a b : ℕ) → a ≡ 0 → b ≡ earlier a b
earlier_second a b e = rw e

pub earlier_first : (a b : ℕ) → (a ≡ 0 → ⊥) → b ≡ 0 → a ≡ earlier a b
earlier_first zero b some e = absurd (some refl)
earlier_first (suc a) b some e = rw e

pub earlier_less : (a b : ℕ) → (a ≡ 0 → ⊥) → (b ≡ 0 → ⊥) → a < b → a ≡ earlier a b
earlier_less zero b some other h = absurd (some refl)
earlier_less (suc a) zero some other h = refl
earlier_less (suc a) (suc b) some other h = omega arith

pub earlier_more : (a b : ℕ) → (a ≡ 0 → ⊥) → (b ≡ 0 → ⊥) → b ≤ a → b ≡ earlier a b
earlier_more zero b some other h = absurd (some refl)
earlier_more (suc a) zero some other h = absurd (other refl)
earlier_more (suc a) (suc b) some other h = omega arith

pub ruleset placing = (earlier_second, earlier_first, earlier_less, earlier_more)

-- no place is earlier only where there is none
pub earlier_none : (a b : ℕ) → earlier a b ≡ 0 → (a ≡ 0) × (b ≡ 0)
earlier_none zero b e = (refl, e)
earlier_none (suc a) zero e = absurd (omega arith)
earlier_none (suc a) (suc b) e = absurd (omega arith)

-- one column more
pub earliest_next : (n : ℕ) (f : ℕ → ℕ) (a b r : ℕ) → r ≡ earlier a b → a ≡ earliest n f → b ≡ f n → r ≡ earliest (n + 1) f
earliest_next n f a b r e d g = e ∙ ap₂ earlier d g ∙ ap (λ (k : ℕ). earliest k f) (sym (add-one n))

pub earliest_none : (n : ℕ) (f : ℕ → ℕ) → earliest n f ≡ 0 → (c : ℕ) → c < n → f c ≡ 0
earliest_none zero f e c h = absurd (omega arith)
earliest_none (suc n) f e c h = by_place (λ lt. earliest_none n f (earlier_none (earliest n f) (f n) e).0 c lt) (dec_lt c n)
  where
    by_place : (c < n → f c ≡ 0) → Dec (c < n) → f c ≡ 0
    by_place ih (yes lt) = ih lt
    by_place ih (no ge) = let last : c ≡ n = omega arith in ap f last ∙ (earlier_none (earliest n f) (f n) e).1

pub none_earliest : (n : ℕ) (f : ℕ → ℕ) → ((c : ℕ) → c < n → f c ≡ 0) → earliest n f ≡ 0
none_earliest zero f h = refl
none_earliest (suc n) f h = ap₂ earlier (none_earliest n f (λ c g. h c (omega arith))) (h n (omega arith))
