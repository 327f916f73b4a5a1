-- Method 1, Straus, with parameter k (Spec 3.5).
use Rattle.std.specs.Prelude.{List, ℕ, zero, suc, ◌+◌, ◌-◌, ◌*◌, ◌^◌}
use Rattle.chain.specs.Chain.{Chain}
use Rattle.chain.specs.declared.Step.{Step}
use Rattle.digits.specs.Digits.{digit_count, digit}
use Rattle.digits.specs.Range.{sum_to, max_to, list_to, sign}
use Rattle.sheet.specs.Sheet.{amount}
use Rattle.products.specs.Product.{Made, made, times, squared, payslips}
use Rattle.tables.specs.Table.{entry, table}
use Rattle.methods.specs.Method.{Method}

-- Spec 3: the largest k, and the largest p times k
abbrev pub straus_most : ℕ
straus_most = 5

abbrev pub straus_most_bits : ℕ
straus_most_bits = 10

-- the bases: values 1 to p
abbrev pub bases : ℕ → List ℕ
bases p = list_to p (λ c. c + 1)

-- Spec 3.5: the table over the bases
abbrev pub straus_table : ℕ → ℕ → List Step
straus_table p k = table k (bases p) (p + 1) (2 ^ (p * k))

-- Spec 3.5: squared k times and multiplied by an entry, digit after digit from the top: the upper n of J digits,
-- e j being the table value for digit j. The start is a product with the empty one, and so a copy, as is one with a zero digit vector.
abbrev pub horner : ℕ → ℕ → (ℕ → ℕ) → ℕ → List Step → ℕ → Made
horner p k e J before zero = made before 0
horner p k e J before (suc n) = times p (squared p k (horner p k e J before n)) (e (J - suc n))

module _ (p : ℕ) (amounts : List ℕ) (k : ℕ) where
  -- Spec 3.5: J, for payslip i; 0 for a payslip of zeros
  unfoldable pub straus_digits : ℕ → ℕ
  unfolding digit_count
  straus_digits i = digit_count k (max_to p (amount p amounts i))

  -- Spec 3.4, 3.5: the entry of its digits with weight 2^(kj), one digit for each column, the first column lowest
  abbrev pub digit_vector : ℕ → ℕ → ℕ
  digit_vector i j = sum_to p (λ c. digit k (amount p amounts i c) j * 2 ^ (k * c))

  abbrev pub straus_payslip : ℕ → List Step → Made
  straus_payslip i before =
      let J = straus_digits i in
      horner p k (λ j. entry k (bases p) (p + 1) (digit_vector i j)) J before J

  -- Spec 3.5: the steps of payslip i; of a payslip of zeros J is 0, and there is none
  abbrev pub straus_payslip_count : ℕ → ℕ
  straus_payslip_count i =
      let J = straus_digits i in
      (J - 1) * k + sum_to (J - 1) (λ j. sign (digit_vector i j))

  -- Spec 3.5: the ceiling's part for payslip i
  abbrev pub straus_payslip_ceiling : ℕ → ℕ
  straus_payslip_ceiling i = (straus_digits i - 1) * (k + 1)

module _ (p q : ℕ) (amounts : List ℕ) (k : ℕ) where
  unfoldable pub straus : Chain
  straus = payslips (straus_payslip p amounts k) (straus_table p k) q

  -- Spec 3.5: the count
  unfoldable pub straus_count : ℕ
  straus_count = 2 ^ (p * k) - p - 1 + sum_to q (straus_payslip_count p amounts k)

  -- Spec 3.5: the ceiling
  unfoldable pub straus_ceiling : ℕ
  straus_ceiling = 2 ^ (p * k) - p - 1 + sum_to q (straus_payslip_ceiling p amounts k)

  abbrev pub straus_method : Method
  straus_method = record { chain = straus; count = straus_count; ceiling = straus_ceiling }
