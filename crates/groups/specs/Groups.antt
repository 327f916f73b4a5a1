-- Method 3 up to its groups' tables: the inputs that the squarings make, and groups of c of them (Spec 3.7).
use Rattle.std.specs.Prelude.{List, [], ◌∷◌, ◌++◌, ℕ, zero, suc, ◌+◌, ◌-◌, ◌*◌, ◌/◌, ◌^◌, min, length, take, drop}
use Rattle.chain.specs.Chain.{most_columns}
use Rattle.chain.specs.declared.Step.{Step}
use Rattle.digits.specs.Digits.{bit_length, digit}
use Rattle.digits.specs.Range.{sum_to, list_to, sign}
use Rattle.sheet.specs.Sheet.{amount}
use Rattle.tables.specs.Table.{table}
use Rattle.methods.specs.Powers.{largest_in, squarings, power_of}

-- no sheet has more inputs: an amount has at most 32 bits
abbrev pub most_inputs : ℕ
most_inputs = most_columns * 32

-- Spec 3: the largest parameter c, and so the largest group
abbrev pub most_members : ℕ
most_members = 8

-- Spec 3.7: f at each input of the first columns, column by column, the base before its squares; bits says how many a column has
abbrev pub over_inputs : (ℕ → ℕ) → (ℕ → ℕ → ℕ) → ℕ → List ℕ
over_inputs bits f zero = []
over_inputs bits f (suc col) = over_inputs bits f col ++ list_to (bits col) (f col)

-- Spec 3.7: group g of c in a row, counted from 0; how many groups w inputs make; and how large group g is
abbrev pub group : ℕ → ℕ → List ℕ → List ℕ
group c g l = take c (drop (g * c) l)

abbrev pub group_count : ℕ → ℕ → ℕ
group_count c w = (w + c - 1) / c

abbrev pub group_size : ℕ → ℕ → ℕ → ℕ
group_size c w g = min c (w - g * c)

-- Spec 3.4, 3.7: the entry of a group's part, the first input being its lowest bit
abbrev pub weigh : List ℕ → ℕ
weigh [] = 0
weigh (b ∷ r) = b + 2 * weigh r

-- Spec 3.7: the tables of the first g groups, with one bit for each input, after the steps before
abbrev pub group_tables : ℕ → ℕ → List ℕ → List Step → ℕ → List Step
group_tables p c members before zero = before
group_tables p c members before (suc g) =
    let r = group_tables p c members before g in
    r ++ table 1 (group c g members) (p + length r + 1) (2 ^ length (group c g members))

-- Spec 3.4, 3.7: the steps of the table of a group of g inputs
abbrev pub table_steps : ℕ → ℕ
table_steps g = 2 ^ g - g - 1

-- Spec 3.7, Req 04: those of the first n groups of w inputs, each group at its own size
abbrev pub tables_count : ℕ → ℕ → ℕ → ℕ
tables_count c w n = sum_to n (λ g. table_steps (group_size c w g))

-- of a sheet
module _ (p q : ℕ) (amounts : List ℕ) where
  -- Spec 3.7: the bits of the largest amount of column col
  unfoldable pub column_bits : ℕ → ℕ
  unfolding bit_length
  column_bits col = bit_length (largest_in p q amounts col)

  -- Spec 3.7: how often the base of column col is squared
  abbrev pub column_squarings : ℕ → ℕ
  column_squarings col = column_bits col - 1

  -- Spec 3.7: the inputs' value numbers
  unfoldable pub inputs : List ℕ
  unfolding column_bits
  inputs = over_inputs column_bits (power_of p column_squarings) p

  -- Spec 3.7: which inputs payslip i uses, 1 or 0 for each: the bit of its amount
  unfoldable pub selection : ℕ → List ℕ
  unfolding column_bits
  selection i = over_inputs column_bits (λ col j. digit 1 (amount p amounts i col) j) p

  -- Spec 3.7: w
  abbrev pub input_count : ℕ
  input_count = sum_to p column_bits

  -- the squarings' steps, and those of the groups' tables after them
  abbrev pub sheet_squarings : List Step
  sheet_squarings = squarings p column_squarings p

  abbrev pub sheet_tables : ℕ → List Step
  sheet_tables c = group_tables p c inputs sheet_squarings (group_count c input_count)

  -- Spec 3.7: how many columns are not all 0
  abbrev pub columns_used : ℕ
  columns_used = sum_to p (λ col. sign (largest_in p q amounts col))

  -- Spec 3.7: the squarings; that they are w less the columns that are not all 0 is a law
  abbrev pub squaring_count : ℕ
  squaring_count = sum_to p column_squarings
