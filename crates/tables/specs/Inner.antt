-- Inner vocabulary: what the functions of this crate ask and leave; nobody has to believe it to believe an entry point's promise.
use Rattle.std.specs.Prelude.{false, ◌≡◌, List, ◌++◌, ℕ, ◌+◌, ◌*◌, ◌^◌, ◌≤◌, ◌<◌, length}
use Rattle.chain.specs.declared.Step.{Step}
use Rattle.digits.specs.Digits.{digit_count}
use Rattle.products.specs.Inner.{StepsStored}
use Rattle.products.specs.declared.Progress.{Progress}
use Rattle.tables.specs.Table.{is_unit, table}

-- entry t of a table over these inputs whose first step makes value `at`, and that its number fits
pub record EntryAsked (k : ℕ) (inputs : List ℕ) (at t : ℕ) : Type 0 where
  pub k_some : 0 < k
  pub k_low : k < 32
  pub at_some : 0 < at
  pub number_low : at + t < 2 ^ 32
  pub inside : t < 2 ^ (k * length inputs)

-- it is not zero, and d counts its digits
pub record CountedAsked (k : ℕ) (inputs : List ℕ) (at d t : ℕ) : Type 0 where
  pub entry : EntryAsked k inputs at t
  pub t_some : 0 < t
  pub digits_are : d ≡ digit_count k t

-- and it is no unit
pub record OtherAsked (k : ℕ) (inputs : List ℕ) (at d t : ℕ) : Type 0 where
  pub counted : CountedAsked k inputs at d t
  pub other : is_unit k t ≡ false

-- what finding the lowest digit of t that is not 0 asks, in base 2^k
pub record LowestAsked (k t : ℕ) : Type 0 where
  pub k_some : 0 < k
  pub t_some : 0 < t

-- the row of a table's entries with one digit more than d, and that their numbers fit
pub record RowAsked (k : ℕ) (inputs : List ℕ) (at d : ℕ) : Type 0 where
  pub k_some : 0 < k
  pub k_low : k < 32
  pub at_some : 0 < at
  pub inside : d < length inputs
  pub places_low : k * length inputs < 32
  pub numbers_low : at + 2 ^ (k * length inputs) ≤ 2 ^ 32

-- a table over these inputs after n steps, and that its numbers fit
pub record TableAsked (p k : ℕ) (inputs : List ℕ) (n : ℕ) : Type 0 where
  pub k_some : 0 < k
  pub k_low : k < 32
  pub places_low : k * length inputs < 32
  pub numbers_low : p + n + 2 ^ (k * length inputs) < 2 ^ 32

-- the steps are stored, one more than before
pub record OneMore (cells cells' : List ℕ) (before after : Progress) (steps : List Step) : Type 0 where
  pub stored : StepsStored cells cells' after steps
  pub next : after.steps ≡ before.steps + 1

-- wherever a table is stored up to entry t in cells, with all steps that s counts, it is stored up to entry t' in cells', with those of s'
pub record Longer (k : ℕ) (inputs : List ℕ) (at : ℕ) (cells : List ℕ) (s : Progress) (t : ℕ) (cells' : List ℕ) (s' : Progress) (t' : ℕ) : Type 0 where
  pub stored : (old : List ℕ) (front : List Step) → StepsStored old cells s (front ++ table k inputs at t)
      → StepsStored old cells' s' (front ++ table k inputs at t')
