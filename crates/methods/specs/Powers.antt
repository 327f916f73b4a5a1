-- Powers of the bases by repeated squaring (Spec 3.6, 3.7). Column c, counted from 0, is squared n c times.
use Rattle.std.specs.Prelude.{cond, List, [], ℕ, zero, suc, ◌+◌, get_or}
use Rattle.chain.specs.Tests.{◌=?◌}
use Rattle.chain.specs.declared.Step.{Step}
use Rattle.digits.specs.Range.{sum_to, max_to}
use Rattle.sheet.specs.Sheet.{amount}
use Rattle.products.specs.Product.{made, squared}

-- Spec 3.6, 3.7: the largest amount of column c over q payslips
abbrev pub largest_in : ℕ → ℕ → List ℕ → ℕ → ℕ
largest_in p q amounts c = max_to q (λ i. amount p amounts i c)

-- Spec 3.6, 3.7: the squarings of the first columns, column by column
abbrev pub squarings : ℕ → (ℕ → ℕ) → ℕ → List Step
squarings p n zero = []
squarings p n (suc c) = (squared p (n c) (made (squarings p n c) (c + 1))).steps

-- how often each column is squared, given as a list
abbrev pub counts_of : List ℕ → ℕ → ℕ
counts_of counts c = get_or counts c 0

-- the value number of column c's base after j squarings: the base itself, or one of the values after first, the last of the columns before
abbrev pub power_at : ℕ → ℕ → ℕ → ℕ
power_at c first j = cond (j =? 0) (c + 1) (first + j)

abbrev pub power_of : ℕ → (ℕ → ℕ) → ℕ → ℕ → ℕ
power_of p n c j = power_at c (p + sum_to c n) j
