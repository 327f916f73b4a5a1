-- A payslip has no digits exactly if it is all 0, and then adds nothing: sums over all payslips are over those not all 0 (Spec 3.5).
use mathlib.Core.Path.{◌≡◌, ap, ◌∙◌}
use mathlib.Core.Logic.{◌↔◌}
use mathlib.Core.List.{List}
use Prim.Native.Nat.{ℕ, ◌+◌, ◌-◌, ◌*◌, ◌^◌, ◌<◌}
use native.Mathlib.Nat.{zero-mul, mul-le-mul_left}
use native.Mathlib.Omega.{arith}
use lib.Pow.{pow_pos}
use Rattle.digits.specs.Digits.{digit_count, digit}
use Rattle.digits.specs.Range.{sum_to, max_to, sign}
use Rattle.digits.proofs.Count.{count_zero, none_counted}
use Rattle.digits.proofs.Range.{max_none, sum-none}
use Rattle.sheet.specs.Sheet.{amount}
use Rattle.straus.specs.Straus.{straus_digits, digit_vector, straus_payslip_count}

module _ (p : ℕ) (amounts : List ℕ) (k i : ℕ) where
  -- J is 0 exactly if every amount of the payslip is 0
  pub zero_payslip : straus_digits p amounts k i ≡ 0 ↔ ((c : ℕ) → c < p → amount p amounts i c ≡ 0)
  unfolding straus_digits
  zero_payslip = (
    λ e. (max_none p (amount p amounts i)).0 (none_counted k (max_to p (amount p amounts i)) e),
    λ none. ap (digit_count k) ((max_none p (amount p amounts i)).1 none) ∙ count_zero k,
  )

  -- and then it takes no step
  pub zero_payslip_count : straus_digits p amounts k i ≡ 0 → straus_payslip_count p amounts k i ≡ 0
  zero_payslip_count e = by_digits (straus_digits p amounts k i) e
    where
      by_digits : (J : ℕ) → J ≡ 0 → (J - 1) * k + sum_to (J - 1) (λ j. sign (digit_vector p amounts k i j)) ≡ 0
      by_digits J none = rw none (omega (arith, zero-mul k))

  -- a vector counts for nothing exactly if no amount has a digit there but 0
  pub zero_vector : (j : ℕ) → digit_vector p amounts k i j ≡ 0 ↔ ((c : ℕ) → c < p → digit k (amount p amounts i c) j ≡ 0)
  zero_vector j = (
    λ e c h. omega (arith, (sum-none p part).0 e c h, mul-le-mul_left (digit k (amount p amounts i c) j) (pow_pos (k * c))),
    λ none. (sum-none p part).1 (λ c h. ap (λ (d : ℕ). d * 2 ^ (k * c)) (none c h) ∙ zero-mul (2 ^ (k * c))),
  )
    where
      part : ℕ → ℕ
      part c = digit k (amount p amounts i c) j * 2 ^ (k * c)
