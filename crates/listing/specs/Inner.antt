-- Inner vocabulary: the table of amounts that is filled column by column, how long the parts of a listing can be, and what the functions ask. Nobody has to
-- believe it to believe an entry point's promise.
use Rattle.std.specs.Prelude.{◌≡◌, List, ◌∷◌, ℕ, ◌+◌, ◌*◌, ◌≤◌, ◌<◌, length, get_or}
use Rattle.chain.specs.Verdict.{Verdict, fine}
use Rattle.chain.specs.Chain.{most_columns, most_payslips, pairs, counts}
use Rattle.chain.specs.Inner.{SizesLow, ChainSound, FiguresAble}
use Rattle.layout.specs.Layout.{edition1}
use Rattle.layout.specs.File.{columns_of, payslips_of, steps_of}

-- a cell for each payslip, column after column
abbrev pub table_size : ℕ
table_size = most_payslips * most_columns

-- the amount of payslip i in column c
abbrev pub amount_in : List ℕ → ℕ → ℕ → ℕ
amount_in table i c = get_or table (most_payslips * c + i) 0

-- the table has the amounts of the first q payslips in the first p columns; f i c is that of payslip i in column c
pub record TableHolds (table : List ℕ) (q p : ℕ) (f : ℕ → ℕ → ℕ) : Type 0 where
  pub each : (i c : ℕ) → i < q → c < p → amount_in table i c ≡ f i c

-- what a function that fills the table tells, and that the table holds the amounts if the rule finds nothing
pub record AmountsTold {A : Type 0} (told right : A) (rule : Verdict) (Holds : Type 0) : Type 0 where
  pub told_is : told ≡ right
  pub holds : rule ≡ fine → Holds

-- what a file's reading tells: p, q and the chain's counts
abbrev pub sizes_of : List ℕ → List ℕ
sizes_of bytes = columns_of bytes ∷ payslips_of bytes ∷ counts (steps_of edition1 bytes)

-- a blank and the 10 digits of the largest amount
abbrev pub most_field : ℕ
most_field = 11

-- the first line: p and q of 2 digits each, n of 5, two blanks and the newline
abbrev pub most_sizes : ℕ
most_sizes = 2 + 1 + 2 + 1 + 5 + 1

-- a payslip's line: its number of 2 digits, its amounts and the newline
abbrev pub most_line : ℕ
most_line = 2 + most_field * most_columns + 1

-- room for every listing
abbrev pub most_text : ℕ
most_text = most_sizes + most_line * most_payslips

-- payslip i in a whole table, and room for so many bytes from a place on
pub record LineAsked (bytes i p : ℕ) (table : List ℕ) (at : ℕ) (text : List ℕ) : Type 0 where
  pub inside : i < most_payslips
  pub p_low : p ≤ most_columns
  pub table_whole : length table ≡ table_size
  pub room : at + bytes ≤ length text

-- a whole table, and room for the lines of the first q payslips
pub record LinesAsked (p q : ℕ) (table : List ℕ) (at : ℕ) (text : List ℕ) : Type 0 where
  pub sizes_low : SizesLow p q
  pub table_whole : length table ≡ table_size
  pub room : at + most_line * q ≤ length text

-- sizes that are not too large for a file, and room for so many bytes
pub record SizesAsked (bytes p q n : ℕ) (text : List ℕ) : Type 0 where
  pub sizes_low : SizesLow p q
  pub n_low : n ≤ edition1.limit
  pub room : bytes ≤ length text

-- what the listing of a chain asks
pub record ListingAsked (p q n : ℕ) (table text : List ℕ) : Type 0 where
  pub sizes : SizesAsked most_text p q n text
  pub table_whole : length table ≡ table_size

-- a column of the table, with a cell for each of the outputs
pub record GatherAsked (c : ℕ) (outputs values table : List ℕ) : Type 0 where
  pub column_low : c < most_columns
  pub figures_able : FiguresAble outputs (length values) most_payslips
  pub table_whole : length table ≡ table_size

-- a chain whose amounts have room in the table
pub record MeasureAsked (p : ℕ) (steps outputs scratch table : List ℕ) : Type 0 where
  pub chain_sound : ChainSound p (pairs steps) outputs scratch
  pub outputs_few : length outputs ≤ most_payslips
  pub table_whole : length table ≡ table_size

-- room for every file
pub record FileRoom (steps outputs scratch table : List ℕ) : Type 0 where
  pub steps_whole : length steps ≡ 2 * edition1.limit
  pub outputs_whole : length outputs ≡ most_payslips
  pub scratch_whole : length scratch ≡ most_columns + edition1.limit + 1
  pub table_whole : length table ≡ table_size
