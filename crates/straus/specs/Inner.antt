-- Inner vocabulary: what the functions of Straus's method ask and leave; nobody has to believe it to believe an entry point's promise.
use Rattle.std.specs.Prelude.{List, ℕ, ◌+◌, ◌*◌, ◌≤◌, ◌<◌, length}
use Rattle.methods.specs.Inner.{Asked}
use Rattle.straus.specs.Straus.{straus_most, straus_most_bits}

-- a chain that is asked for, whose vectors have few bits
pub record StrausAsked (p q : ℕ) (amounts : List ℕ) (k : ℕ) : Type 0 where
  pub ranges : Asked straus_most p q amounts k
  pub bits_low : p * k ≤ straus_most_bits

-- payslip i is among the amounts, and the vectors of its digits have value numbers of 32 bits in the table
pub record PayslipAsked (p : ℕ) (amounts : List ℕ) (k i : ℕ) : Type 0 where
  pub there : i * p + p ≤ length amounts
  pub k_some : 0 < k
  pub k_low : k < 32
  pub vectors_low : p + k * p < 32
