-- Method 2, Yao, with parameter k (Spec 3.6).
use Rattle.std.specs.Prelude.{cond, List, ℕ, zero, suc, ◌+◌, ◌-◌, ◌*◌, ◌^◌}
use Rattle.chain.specs.Tests.{◌=?◌}
use Rattle.chain.specs.Chain.{Chain}
use Rattle.chain.specs.declared.Step.{Step}
use Rattle.digits.specs.Digits.{digit_count, digit}
use Rattle.digits.specs.Range.{sum_to, max_to, sign}
use Rattle.sheet.specs.Sheet.{amount}
use Rattle.products.specs.Product.{Made, made, times, payslips}
use Rattle.methods.specs.Powers.{largest_in, squarings, power_of}
use Rattle.methods.specs.Method.{Method}

-- Spec 3: the largest k
abbrev pub yao_most : ℕ
yao_most = 8

-- b times the power where the digit is d
unfoldable pub gather_one : ℕ → ℕ → ℕ → Made → ℕ → Made
unfolding times
gather_one p x d b power = cond (x =? d) (times p b power) b

-- Spec 3.6: b times each power whose digit of x is d, in rising i: those of i below n
abbrev pub gather : ℕ → ℕ → (ℕ → ℕ) → ℕ → ℕ → ℕ → Made → Made
gather p k power x d zero b = b
gather p k power x d (suc n) b = gather_one p (digit k x n) d (gather p k power x d n b) (power n)

-- the steps so far with the products a and b
pub record Sweep : Type 0 where
  pub steps : List Step
  pub a : ℕ
  pub b : ℕ

-- Spec 3.6: for each d from the largest digit down b takes up its powers and then a takes up b: the first n of these d
abbrev pub sweep : ℕ → ℕ → (ℕ → ℕ) → ℕ → ℕ → List Step → ℕ → Sweep
sweep p k power J x before zero = record { steps = before; a = 0; b = 0 }
sweep p k power J x before (suc n) =
    let r = sweep p k power J x before n in
    let b = gather p k power x (2 ^ k - suc n) J (made r.steps r.b) in
    let a = times p (made b.steps r.a) b.value in
    record { steps = a.steps; a = a.value; b = b.value }

-- Spec 3.6: the steps of an amount: its digits that are not 0 and the largest of them, less 2; 0 has none
abbrev pub amount_count : ℕ → ℕ → ℕ → ℕ
amount_count k J x = sum_to J (λ j. sign (digit k x j)) + max_to J (λ j. digit k x j) - 2

-- Spec 3.6: the ceiling's part for an amount of a column of J digits; 0 has none
abbrev pub amount_ceiling : ℕ → ℕ → ℕ → ℕ
amount_ceiling k J x = sign x * (J + 2 ^ k - 3)

-- Spec 3.6: the amounts of a payslip that are not 0, less 1
abbrev pub yao_joins : ℕ → List ℕ → ℕ → ℕ
yao_joins p amounts i = sum_to p (λ c. sign (amount p amounts i c)) - 1

module _ (p q : ℕ) (amounts : List ℕ) (k : ℕ) where
  -- Spec 3.6: J, for column c
  unfoldable pub yao_digits : ℕ → ℕ
  unfolding digit_count
  yao_digits c = digit_count k (largest_in p q amounts c)

  -- Spec 3.6: how often the base of column c is squared
  abbrev pub yao_squarings : ℕ → ℕ
  yao_squarings c = (yao_digits c - 1) * k

  -- the value number of power 2^(ki) of column c
  abbrev pub yao_power : ℕ → ℕ → ℕ
  yao_power c i = power_of p yao_squarings c (k * i)

  -- Spec 3.6: the product of payslip i after its first columns, each multiplied in when it is made
  abbrev pub yao_payslip : ℕ → List Step → ℕ → Made
  yao_payslip i before zero = made before 0
  yao_payslip i before (suc c) =
      let m = yao_payslip i before c in
      let r = sweep p k (yao_power c) (yao_digits c) (amount p amounts i c) m.steps (2 ^ k - 1) in
      times p (made r.steps m.value) r.a

  unfoldable pub yao : Chain
  yao = payslips (λ i before. yao_payslip i before p) (squarings p yao_squarings p) q

  -- the steps of payslip i: those of its amounts, and its products; and the same for the ceiling
  abbrev pub yao_payslip_count : ℕ → ℕ
  yao_payslip_count i = sum_to p (λ c. amount_count k (yao_digits c) (amount p amounts i c)) + yao_joins p amounts i

  abbrev pub yao_payslip_ceiling : ℕ → ℕ
  yao_payslip_ceiling i = sum_to p (λ c. amount_ceiling k (yao_digits c) (amount p amounts i c)) + yao_joins p amounts i

  -- Spec 3.6: the count
  unfoldable pub yao_count : ℕ
  yao_count = sum_to p yao_squarings + sum_to q yao_payslip_count

  -- Spec 3.6: the ceiling
  unfoldable pub yao_ceiling : ℕ
  yao_ceiling = sum_to p yao_squarings + sum_to q yao_payslip_ceiling

  abbrev pub yao_method : Method
  yao_method = record { chain = yao; count = yao_count; ceiling = yao_ceiling }
