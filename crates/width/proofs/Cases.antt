-- The cases are the ranges between powers of two, one after the other. So a number from the first power on and below the last is in the one case whose
-- width it has in bits, and any other number is in none.
use mathlib.Core.Path.{◌≡◌, refl, sym, ◌∙◌}
use mathlib.Core.List.{List, [], ◌∷◌}
use Prim.Native.Nat.{ℕ, zero, suc, ◌+◌, ◌-◌, ◌^◌, ◌≤◌, ◌<◌}
use native.Mathlib.Numerals.{unary_clauses}
use native.Mathlib.Decide.{dec_le}
use native.Mathlib.Omega.{arith}
use lib.ListN.{length}
use lib.Pow.{pow_pos, pow_mono}
use Rattle.chain.proofs.Rules.{le_yes, le_no}
use Rattle.digits.specs.Digits.{bit_length}
use Rattle.digits.proofs.Count.{bit-length-is}
use Rattle.width.specs.Cases.{Case, ◌to◌gives◌, cases, width_in, width_by_cases}

-- how many cases there are: the last one gives that width
abbrev pub case_count : ℕ
case_count = length cases

-- m cases from width k + 1 on
abbrev powers : ℕ → ℕ → List Case
powers k zero = []
powers k (suc m) = ((2 ^ k) to (2 ^ suc k - 1) gives (suc k)) ∷ powers (suc k) m

by_powers : (x : ℕ) → width_by_cases x ≡ width_in (powers 0 case_count) x
unfolding width_by_cases
by_powers x = refl

module _ (x m k : ℕ) where
  -- below the first of them, in it, and past it
  before : x < 2 ^ k → width_in (powers k (suc m)) x ≡ width_in (powers (suc k) m) x
  before less = rw (le_no (2 ^ k) x less)

  within : 2 ^ k ≤ x → x < 2 ^ suc k → width_in (powers k (suc m)) x ≡ suc k
  within lo hi = rw (le_yes (2 ^ k) x lo, le_yes x (2 ^ suc k - 1) (omega arith))

  past : 2 ^ suc k ≤ x → width_in (powers k (suc m)) x ≡ width_in (powers (suc k) m) x
  past more = rw (le_yes (2 ^ k) x (omega arith), le_no x (2 ^ suc k - 1) (omega (arith, pow_pos k)))

none_below : (x m k : ℕ) → x < 2 ^ k → width_in (powers k m) x ≡ 0
none_below x zero k less = refl
none_below x (suc m) k less = before x m k less ∙ none_below x m (suc k) (omega arith)

-- the cases up to width e
module _ (x e : ℕ) where
  none_above : (m k : ℕ) → k + m ≡ e → 2 ^ e ≤ x → width_in (powers k m) x ≡ 0
  none_above zero k ends more = refl
  none_above (suc m) k ends more = past x m k (omega (arith, pow_mono {i = suc k} {j = e} (omega arith))) ∙ none_above m (suc k) (omega arith) more

  found : (m k : ℕ) → k + m ≡ e → 2 ^ k ≤ x → x < 2 ^ e → width_in (powers k m) x ≡ bit_length x
  found zero k ends lo hi = absurd (omega (arith, pow_mono {i = e} {j = k} (omega arith)))
  found (suc m) k ends lo hi = by_size (dec_le (2 ^ suc k) x) (λ more. found m (suc k) (omega arith) more hi)
    where
      by_size : Dec (2 ^ suc k ≤ x) → (2 ^ suc k ≤ x → width_in (powers (suc k) m) x ≡ bit_length x) → width_in (powers k (suc m)) x ≡ bit_length x
      by_size (yes more) on = past x m k more ∙ on more
      by_size (no less) on = within x m k lo (omega arith) ∙ bit-length-is (suc k) x (omega arith) (simp unary_clauses lo) (omega arith)

-- every width is the bit length, and other numbers have none
module _ (x : ℕ) where
  pub by_cases_is : 1 ≤ x → x < 2 ^ case_count → width_by_cases x ≡ bit_length x
  by_cases_is lo hi = by_powers x ∙ found x case_count case_count 0 refl lo hi

  pub no_case_below : x < 1 → 0 ≡ width_by_cases x
  no_case_below less = sym (by_powers x ∙ none_below x case_count 0 less)

  pub no_case_above : 2 ^ case_count ≤ x → 0 ≡ width_by_cases x
  no_case_above more = sym (by_powers x ∙ none_above x case_count case_count 0 refl more)

-- a number of w bits is in the case that gives w
pub in_case : (w x : ℕ) → 0 < w → w ≤ case_count → 2 ^ (w - 1) ≤ x → x < 2 ^ w → w ≡ width_by_cases x
in_case w x some few lo hi =
    bit-length-is w x some lo hi
    ∙ sym (by_cases_is x (omega (arith, pow_pos (w - 1))) (omega (arith, pow_mono {i = w} {j = case_count} few)))
