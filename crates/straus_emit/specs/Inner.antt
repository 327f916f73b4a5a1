-- Inner vocabulary: what the functions of this crate ask, and a payslip's amounts laid out so that a vector of its digits is cut from all of them at one
-- place. Nobody has to believe it to believe an entry point's promise.
use Rattle.std.specs.Prelude.{◌≡◌, List, ℕ, ◌+◌, ◌-◌, ◌*◌, ◌/◌, ◌^◌, ◌≤◌, ◌<◌, length, get_or}
use Rattle.std.specs.Int.Bits.{bit_and}
use Rattle.chain.specs.declared.Step.{Step}
use Rattle.digits.specs.Range.{sum_to}
use Rattle.products.specs.Product.{Made}
use Rattle.sheet.specs.Sheet.{amount}
use Rattle.straus.specs.Straus.{bases, horner}
use Rattle.straus.specs.Inner.{StrausAsked, PayslipAsked}
use Rattle.tables.specs.Table.{entry}

-- what is made over inputs that are the bases: a payslip, and a whole chain
pub record PayslipOver (p : ℕ) (amounts : List ℕ) (k : ℕ) (inputs : List ℕ) (i : ℕ) : Type 0 where
  pub payslip : PayslipAsked p amounts k i
  pub bases_are : inputs ≡ bases p

pub record ChainOver (p q : ℕ) (amounts : List ℕ) (k : ℕ) (inputs : List ℕ) : Type 0 where
  pub chain : StrausAsked p q amounts k
  pub bases_are : inputs ≡ bases p

-- r is how many digits in base 2^k there are, and the top one begins within 32 bits
pub record Counted (k r digits : ℕ) : Type 0 where
  pub is : r ≡ digits
  pub places_low : k * (r - 1) < 32

-- the amount of column c, moved up to where its digits stand in a vector
abbrev pub raised_at : ℕ → List ℕ → ℕ → ℕ → ℕ → ℕ
raised_at p amounts k i c = amount p amounts i c * 2 ^ (k * c)

-- the bits of a vector that are column c's digit
abbrev pub mask_at : ℕ → ℕ → ℕ
mask_at k c = 2 ^ (k + k * c) - 2 ^ (k * c)

-- what is left of cell c, moved down by s bits, under its mask
abbrev pub masked_at : List ℕ → List ℕ → ℕ → ℕ → ℕ
masked_at cells masks s c = bit_and (get_or cells c 0 / 2 ^ s) (get_or masks c 0)

-- the vector that stands s bits up in p cells
abbrev pub vector_at : ℕ → List ℕ → List ℕ → ℕ → ℕ
vector_at p cells masks s = sum_to p (masked_at cells masks s)

-- the product of so many digits, by Horner's rule over the vectors of the cells
abbrev pub digits_made : ℕ → ℕ → List ℕ → List ℕ → List ℕ → ℕ → List Step → ℕ → Made
digits_made p k inputs cells masks digits before d = horner p k (λ j. entry k inputs (p + 1) (vector_at p cells masks (k * j))) digits before d

-- what these digits ask: each vector is an entry of the table over the inputs
pub record DigitsAsked (p k : ℕ) (inputs cells masks : List ℕ) (digits : ℕ) : Type 0 where
  pub k_some : 0 < k
  pub k_low : k < 32
  pub places_low : k * (digits - 1) < 32
  pub cells_there : p ≤ length cells
  pub masks_there : p ≤ length masks
  pub entries : (j : ℕ) → vector_at p cells masks (k * j) < 2 ^ (k * length inputs)
  pub numbers : p + 1 + 2 ^ (k * length inputs) ≤ 2 ^ 32
