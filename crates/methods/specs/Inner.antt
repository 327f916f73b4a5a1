-- Inner vocabulary: what the functions of every method ask and leave; nobody has to believe it to believe an entry point's promise.
use Rattle.std.specs.Prelude.{◌≡◌, List, ℕ, ◌*◌, ◌≤◌, ◌<◌, length, get_or}
use Rattle.chain.specs.Chain.{Chain, most_columns, most_payslips, most_steps}
use Rattle.chain.specs.Written.{over}
use Rattle.chain.specs.declared.Step.{Step}
use Rattle.digits.specs.Digits.{digit_count}
use Rattle.digits.specs.Inner.{Bounded}
use Rattle.products.specs.Inner.{StepsRoom, StepsStored}
use Rattle.products.specs.declared.Progress.{Progress}
use Rattle.methods.specs.Method.{Method}
use Rattle.methods.specs.Powers.{largest_in}
use Rattle.answers.specs.declared.Quote.{Quote}

-- a sheet whose sizes keep to their ranges
pub record SheetSized (p q : ℕ) (amounts : List ℕ) : Type 0 where
  pub p_some : 1 ≤ p
  pub p_low : p ≤ most_columns
  pub q_low : q ≤ most_payslips
  pub amounts_are : length amounts ≡ p * q

-- what a method is asked for: a chain for such a sheet, with a parameter from 1 to the most that it takes
pub record Asked (most p q : ℕ) (amounts : List ℕ) (k : ℕ) : Type 0 where
  pub sheet : SheetSized p q amounts
  pub k_some : 1 ≤ k
  pub k_low : k ≤ most

-- cells that hold the largest amount of each column
pub record Largest (p q : ℕ) (amounts cells : List ℕ) : Type 0 where
  pub there : p ≤ length cells
  pub are : (c : ℕ) → c < p → get_or cells c 0 ≡ largest_in p q amounts c

-- what a method is asked for that goes by the columns' largest amounts, which the cells hold
pub record AskedByLargest (most p q : ℕ) (amounts : List ℕ) (k : ℕ) (cells : List ℕ) : Type 0 where
  pub ranges : Asked most p q amounts k
  pub largest : Largest p q amounts cells

-- the digits of one of some numbers in base 2^k
abbrev pub digits_at : ℕ → List ℕ → ℕ → ℕ
digits_at k numbers c = digit_count k (get_or numbers c 0)

-- r is the quote of a method
pub record QuoteOf (r : Quote) (m : Method) : Type 0 where
  pub count_is : r.count ≡ m.count
  pub ceiling_is : r.ceiling ≡ m.ceiling

-- r has these two numbers, neither of them large
pub record QuoteWithin (r : Quote) (count ceiling most : ℕ) : Type 0 where
  pub counted : Bounded r.count count most
  pub ceiled : Bounded r.ceiling ceiling most

-- room for so many steps and q outputs
pub record LentRoom (q count : ℕ) (steps outputs : List ℕ) : Type 0 where
  pub steps_fit : 2 * count ≤ length steps
  pub outputs_fit : q ≤ length outputs

-- room for a chain of so many steps with q outputs, which is not too long
pub record ChainRoom (q count : ℕ) (steps outputs : List ℕ) : Type 0 where
  pub short : count ≤ most_steps
  pub lent : LentRoom q count steps outputs

-- room for q payslips after the steps so far: for all the steps then, and for the outputs
pub record PayslipsRoom (p q : ℕ) (cells : List ℕ) (r : Progress) (steps : List Step) (outputs : List ℕ) : Type 0 where
  pub outputs_fit : q ≤ length outputs
  pub steps_room : StepsRoom p cells r steps

-- two slices hold a chain, its steps in turn and its outputs, over the front of what they held before, and r counts its steps and squarings
pub record ChainStored (steps₀ outputs₀ steps outputs : List ℕ) (r : Progress) (c : Chain) : Type 0 where
  pub stored : StepsStored steps₀ steps r c.steps
  pub outputs_are : outputs ≡ over c.outputs outputs₀
