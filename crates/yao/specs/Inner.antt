-- Inner vocabulary: what the functions of Yao's method ask and leave; nobody has to believe it to believe an entry point's promise.
use Rattle.std.specs.Prelude.{◌≡◌, List, ℕ, ◌+◌, ◌-◌, ◌*◌, ◌≤◌, ◌<◌, length, get_or}
use Rattle.methods.specs.Inner.{Asked}
use Rattle.yao.specs.Yao.{yao_digits, yao_most}

-- cells that say how many digits each of the first n columns has; none begins past 32 bits
pub record DigitsFew (k n : ℕ) (cells : List ℕ) : Type 0 where
  pub there : n ≤ length cells
  pub few : (c : ℕ) → c < n → k * get_or cells c 0 ≤ 31 + k

-- they are those of a sheet's columns
pub record Measured (p q : ℕ) (amounts : List ℕ) (k : ℕ) (cells : List ℕ) : Type 0 where
  pub narrow : DigitsFew k p cells
  pub are : (c : ℕ) → c < p → get_or cells c 0 ≡ yao_digits p q amounts k c

-- how often column c is squared, by such cells
abbrev pub squarings_in : ℕ → List ℕ → ℕ → ℕ
squarings_in k cells c = (get_or cells c 0 - 1) * k

-- the most squarings of a column
abbrev pub squarings_most : ℕ
squarings_most = 31

-- a chain that is asked for, with the sheet's columns measured
pub record YaoAsked (p q : ℕ) (amounts : List ℕ) (k : ℕ) (cells : List ℕ) : Type 0 where
  pub ranges : Asked yao_most p q amounts k
  pub measured : Measured p q amounts k cells

-- payslip i of it
pub record YaoPayslipAsked (p q : ℕ) (amounts : List ℕ) (k : ℕ) (cells : List ℕ) (i : ℕ) : Type 0 where
  pub chain : YaoAsked p q amounts k cells
  pub inside : i < q
