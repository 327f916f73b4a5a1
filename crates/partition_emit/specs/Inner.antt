-- Inner vocabulary: what the functions of this crate ask and leave; nobody has to believe it to believe an entry point's promise.
use Rattle.std.specs.Prelude.{◌≡◌, List, ℕ, zero, suc, ◌*◌, ◌^◌, ◌≤◌, ◌<◌, length}
use Rattle.chain.specs.Chain.{Chain}
use Rattle.chain.specs.declared.Step.{Step}
use Rattle.products.specs.Product.{Made, made, times, payslips}
use Rattle.tables.specs.Table.{entry}
use Rattle.products.specs.Inner.{steps_in, StepsRoom}
use Rattle.products.specs.declared.Progress.{Progress}
use Rattle.methods.specs.Inner.{ChainRoom}
use Rattle.methods.specs.Powers.{counts_of}
use Rattle.groups.specs.declared.Grouping.{Grouping}
use Rattle.groups.specs.Groups.{group, inputs, most_inputs}
use Rattle.groups.specs.Inner.{Cuts, Grouped, table_at}
use Rattle.partition.specs.Partition.{partition_count, partition_payslip}

-- the parts of a payslip with these numbers, multiplied in order: the first g groups
abbrev pub parts_by : Grouping → List ℕ → (ℕ → ℕ) → List Step → ℕ → Made
parts_by s members number before zero = made before 0
parts_by s members number before (suc g) =
    times s.p (parts_by s members number before g) (entry 1 (group s.c g members) (table_at s g) (number g))

-- numbers of a payslip's parts, one for each group of these inputs
pub record Numbered (s : Grouping) (members numbers : List ℕ) : Type 0 where
  pub cuts : Cuts s
  pub members_long : length members ≡ s.inputs
  pub numbers_long : length numbers ≡ s.groups
  pub numbers_low : (g : ℕ) → g < s.groups → counts_of numbers g < 2 ^ (1 * length (group s.c g members))

-- a grouped sheet, its inputs' value numbers, and a cell for each part of a payslip
pub record Ready (s : Grouping) (amounts bits members cells : List ℕ) : Type 0 where
  pub grouped : Grouped s amounts bits
  pub members_are : members ≡ inputs s.p s.q amounts
  pub room : most_inputs ≤ length cells

-- payslip i of a grouped sheet, and all of them
abbrev pub payslip_of : Grouping → List ℕ → ℕ → List Step → Made
payslip_of s amounts = partition_payslip s.p s.q amounts s.c

abbrev pub payslips_of : Grouping → List ℕ → List Step → Chain
payslips_of s amounts start = payslips (payslip_of s amounts) start s.q

-- payslip i of a grouped sheet, and room for it after the steps so far
pub record PayslipRoom (s : Grouping) (amounts bits members cells steps : List ℕ) (i : ℕ) (r : Progress) : Type 0 where
  pub ready : Ready s amounts bits members cells
  pub inside : i < s.q
  pub room : StepsRoom s.p steps r (payslip_of s amounts i (steps_in steps r.steps)).steps

-- a grouped sheet, cells for its inputs and for the parts of a payslip, and room for its chain
pub record SheetRoom (s : Grouping) (amounts bits members cells steps outputs : List ℕ) : Type 0 where
  pub grouped : Grouped s amounts bits
  pub members_room : most_inputs ≤ length members
  pub cells_room : most_inputs ≤ length cells
  pub fits : ChainRoom s.q (partition_count s.p s.q amounts s.c) steps outputs
