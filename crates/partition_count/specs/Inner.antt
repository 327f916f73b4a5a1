-- Inner vocabulary: what the functions of this crate ask and leave; nobody has to believe it to believe an entry point's promise.
use Rattle.std.specs.Prelude.{List, ℕ, ◌≤◌, length}
use Rattle.groups.specs.declared.Grouping.{Grouping}
use Rattle.groups.specs.Groups.{most_inputs}
use Rattle.groups.specs.Inner.{Grouped}

-- a grouped sheet and a cell for each part of a payslip
pub record TallyRoom (s : Grouping) (amounts bits cells : List ℕ) : Type 0 where
  pub grouped : Grouped s amounts bits
  pub room : most_inputs ≤ length cells
