-- Inner vocabulary: what the functions of method 3 ask and leave; nobody has to believe it to believe an entry point's promise.
use Rattle.std.specs.Prelude.{◌≡◌, List, ℕ, ◌+◌, ◌-◌, ◌*◌, ◌^◌, ◌≤◌, ◌<◌, length, get_or}
use Rattle.chain.specs.Chain.{most_columns, most_steps}
use Rattle.chain.specs.Written.{over}
use Rattle.digits.specs.Range.{sum_to, list_to}
use Rattle.products.specs.Inner.{steps_in, begun, StepsRoom, StepsStored}
use Rattle.products.specs.declared.Progress.{Progress}
use Rattle.methods.specs.Inner.{SheetSized, digits_at}
use Rattle.methods.specs.Powers.{counts_of, squarings, power_of}
use Rattle.groups.specs.declared.Grouping.{Grouping}
use Rattle.chain.specs.declared.Step.{Step}
use Rattle.groups.specs.Groups.{column_bits, group, group_count, group_tables, input_count, most_inputs, most_members, over_inputs}
use Rattle.groups.specs.Groups.{selection, squaring_count, table_steps, weigh}

-- the bits of columns less some each, as far as they go
abbrev pub bits_less : List ℕ → ℕ → ℕ → ℕ
bits_less bits less col = counts_of bits col - less

-- what columns of these bits are squared, and the inputs that makes
abbrev pub bit_squarings : List ℕ → List Step
bit_squarings bits = squarings (length bits) (bits_less bits 1) (length bits)

abbrev pub bit_inputs : List ℕ → ℕ → List ℕ
bit_inputs bits n = over_inputs (counts_of bits) (power_of (length bits) (bits_less bits 1)) n

-- bits of few columns, each of an amount
pub record Narrow (bits : List ℕ) : Type 0 where
  pub columns : length bits ≤ most_columns
  pub each : (col : ℕ) → get_or bits col 0 ≤ 32

-- what grouping p columns by their largest amounts asks: groups of c, and a cell for the bits of each column
pub record GroupingAsked (p c : ℕ) (largest cells : List ℕ) : Type 0 where
  pub columns : p ≤ most_columns
  pub some : 1 ≤ c
  pub few : c ≤ most_members
  pub largest_there : p ≤ length largest
  pub room : p ≤ length cells

-- the numbers of a grouping go together
pub record Cuts (s : Grouping) : Type 0 where
  pub columns : s.p ≤ most_columns
  pub some : 1 ≤ s.c
  pub few : s.c ≤ most_members
  pub groups_are : s.groups ≡ group_count s.c s.inputs
  pub inputs_few : s.inputs ≤ most_inputs
  pub groups_few : s.groups ≤ most_inputs
  pub squarings_few : s.squarings ≤ most_inputs

-- they are those of columns with these largest amounts and bits
pub record GroupedBy (p q c : ℕ) (largest bits : List ℕ) (s : Grouping) : Type 0 where
  pub cuts : Cuts s
  pub bits_are : bits ≡ list_to p (digits_at 1 largest)
  pub inputs_are : s.inputs ≡ sum_to (length bits) (bits_less bits 0)
  pub squarings_are : s.squarings ≡ sum_to (length bits) (bits_less bits 1)
  pub same_p : s.p ≡ p
  pub same_q : s.q ≡ q
  pub same_c : s.c ≡ c

-- they are those of a sheet, whose columns have these bits
pub record Grouped (s : Grouping) (amounts bits : List ℕ) : Type 0 where
  pub cuts : Cuts s
  pub sheet : SheetSized s.p s.q amounts
  pub bits_are : bits ≡ list_to s.p (column_bits s.p s.q amounts)
  pub inputs_are : s.inputs ≡ input_count s.p s.q amounts
  pub squarings_are : s.squarings ≡ squaring_count s.p s.q amounts

-- the grouping of a sheet with this parameter
pub record GroupedFor (p q : ℕ) (amounts : List ℕ) (c : ℕ) (bits : List ℕ) (s : Grouping) : Type 0 where
  pub grouped : Grouped s amounts bits
  pub same_p : s.p ≡ p
  pub same_q : s.q ≡ q
  pub same_c : s.c ≡ c

-- the numbers of the first n parts that a list of bits is cut into
abbrev pub numbers_of : ℕ → ℕ → List ℕ → List ℕ
numbers_of c n l = list_to n (λ g. weigh (group c g l))

-- those of payslip i
abbrev pub part_numbers : Grouping → List ℕ → ℕ → List ℕ
part_numbers s amounts i = numbers_of s.c s.groups (selection s.p s.q amounts i)

-- a payslip of a grouped sheet, and a cell for each of its parts
pub record PartsRoom (s : Grouping) (amounts bits : List ℕ) (i : ℕ) (cells : List ℕ) : Type 0 where
  pub grouped : Grouped s amounts bits
  pub inside : i < s.q
  pub room : most_inputs ≤ length cells

-- a cell for each input of these columns
pub record InputsRoom (bits cells : List ℕ) : Type 0 where
  pub columns : length bits ≤ most_columns
  pub few : sum_to (length bits) (counts_of bits) ≤ most_inputs
  pub room : most_inputs ≤ length cells

-- the tables of the groups of these inputs
abbrev pub tables_after : Grouping → List ℕ → List Step → List Step
tables_after s members start = group_tables s.p s.c members start s.groups

-- room for them after the steps so far
pub record TablesRoom (s : Grouping) (members steps : List ℕ) (r : Progress) : Type 0 where
  pub cuts : Cuts s
  pub long : length members ≡ s.inputs
  pub few : length (tables_after s members (steps_in steps r.steps)) ≤ most_steps
  pub room : StepsRoom s.p steps r (tables_after s members (steps_in steps r.steps))

-- the squarings and the tables, for columns of these bits
abbrev pub bit_tables : Grouping → List ℕ → List Step
bit_tables s bits = tables_after s (bit_inputs bits (length bits)) (bit_squarings bits)

-- room for them, and a cell for each input
pub record GroupsRoom (s : Grouping) (bits members steps : List ℕ) : Type 0 where
  pub cuts : Cuts s
  pub bits_long : length bits ≡ s.p
  pub bits_sum : sum_to (length bits) (counts_of bits) ≡ s.inputs
  pub members_room : most_inputs ≤ length members
  pub few : length (bit_tables s bits) ≤ most_steps
  pub steps_room : StepsRoom s.p steps begun (bit_tables s bits)

-- the inputs' value numbers and those steps are stored
pub record GroupsMade (s : Grouping) (bits members₀ steps₀ members steps : List ℕ) (r : Progress) : Type 0 where
  pub members_are : members ≡ over (bit_inputs bits (length bits)) members₀
  pub stored : StepsStored steps₀ steps r (bit_tables s bits)

-- the value number of the first step of group g's table: the groups before it are full
abbrev pub table_at : Grouping → ℕ → ℕ
table_at s g = s.p + s.squarings + g * table_steps s.c + 1

-- t is a part of group g
pub record PartOf (s : Grouping) (members : List ℕ) (g t : ℕ) : Type 0 where
  pub cuts : Cuts s
  pub long : length members ≡ s.inputs
  pub inside : g < s.groups
  pub part : t < 2 ^ (1 * length (group s.c g members))
