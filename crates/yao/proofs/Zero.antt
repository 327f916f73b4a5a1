-- What is subtracted is there where something is not 0, and all 0 gives 0: so neither amount nor payslip needs a case of its own (Spec 3.6).
use mathlib.Core.Path.{◌≡◌, ap}
use mathlib.Core.List.{List}
use Prim.Native.Nat.{ℕ, ◌+◌, ◌<◌}
use native.Mathlib.Omega.{arith}
use Rattle.digits.specs.Digits.{digit}
use Rattle.digits.specs.Range.{sum_to, max_to, sign}
use Rattle.digits.proofs.Range.{le_sum, le_max, sum-zero, sign_some}
use Rattle.sheet.specs.Sheet.{amount}
use Rattle.yao.specs.Yao.{amount_count, yao_joins, yao_payslip_count, yao_digits}
use Rattle.yao.proofs.Cost.{zero_amount}

-- z + h − 2 for an amount of which some digit is not 0
pub some_digit : (k J x j : ℕ) → j < J → 0 < digit k x j
    → amount_count k J x + 2 ≡ sum_to J (λ i. sign (digit k x i)) + max_to J (λ i. digit k x i)
some_digit k J x j h some =
    omega (arith, le_sum J (λ i. sign (digit k x i)) j h, sign_some (digit k x j) some, le_max J (λ i. digit k x i) j h)

module _ (p : ℕ) (amounts : List ℕ) (i : ℕ) where
  -- the amounts that are not 0, less 1, for a payslip with such an amount
  pub some_joins : (c : ℕ) → c < p → 0 < amount p amounts i c → yao_joins p amounts i + 1 ≡ sum_to p (λ d. sign (amount p amounts i d))
  some_joins c h some = omega (arith, le_sum p (λ d. sign (amount p amounts i d)) c h, sign_some (amount p amounts i c) some)

  -- a payslip that is all 0 takes no step
  pub zero_payslip : (q k : ℕ) → ((c : ℕ) → c < p → amount p amounts i c ≡ 0) → yao_payslip_count p q amounts k i ≡ 0
  zero_payslip q k none =
      omega (
        arith,
        sum-zero p (λ c. sign (amount p amounts i c)) (λ c h. ap sign (none c h)),
        sum-zero p (λ c. amount_count k (yao_digits p q amounts k c) (amount p amounts i c))
            (λ c h. rw (none c h) (zero_amount k (yao_digits p q amounts k c))),
      )
