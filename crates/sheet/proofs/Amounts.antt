-- Amounts are fine exactly if they are p times q; then each payslip's p amounts lie within them.
use mathlib.Core.Path.{◌≡◌, sym}
use mathlib.Core.List.{List}
use Prim.Native.Nat.{ℕ, suc, ◌+◌, ◌*◌, ◌≤◌, ◌<◌}
use native.Mathlib.Nat.{mul-le-mul, mul-le-mul_right, mul_comm, suc-mul}
use native.Mathlib.Omega.{arith}
use lib.ListN.{length}
use Rattle.chain.specs.Verdict.{fine}
use Rattle.chain.specs.Chain.{most_columns, most_payslips}
use Rattle.chain.proofs.Rules.{refuse_if_fine, not_ne, refuse_no, ne_no}
use Rattle.sheet.specs.Sheet.{amounts_rule}

-- the number of a sheet's amounts
pub product_low : (p q : ℕ) → p ≤ most_columns → q ≤ most_payslips → p * q ≤ most_columns * most_payslips
product_low p q h k = mul-le-mul h k

pub amounts_fit : (p q : ℕ) (amounts : List ℕ) → amounts_rule p q amounts ≡ fine → length amounts ≡ p * q
unfolding amounts_rule
amounts_fit p q amounts e = not_ne _ _ (refuse_if_fine _ 2 0 e)

pub fit_amounts : (p q : ℕ) (amounts : List ℕ) → length amounts ≡ p * q → amounts_rule p q amounts ≡ fine
unfolding amounts_rule
fit_amounts p q amounts e = sym (refuse_no _ 2 0 (ne_no _ _ e))

-- payslip i's amount in column c is one of them
pub amount_there : (p q i c n : ℕ) → i < q → c < p → n ≡ p * q → i * p + c < n
amount_there p q i c n h k e = omega (arith, mul-le-mul_right {m = suc i} {n = q} p h, suc-mul i p, mul_comm p q)

-- and so are all of payslip i's
pub payslip_within : (p q i n : ℕ) → n ≡ p * q → i < q → i * p + p ≤ n
payslip_within p q i n e h = omega (arith, mul-le-mul_right {m = suc i} {n = q} p h, suc-mul i p, mul_comm p q)
