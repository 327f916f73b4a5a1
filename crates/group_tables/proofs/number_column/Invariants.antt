-- The numbers of the column's first powers stand from the given cell on.
use Rattle.std.proofs.Common.{◌≡◌}
use Rattle.chain.specs.Written.{laid}
use Rattle.methods.specs.Powers.{power_at}
use Rattle.digits.specs.Range.{list_to}
use Rattle.group_tables.proofs.number_column.Given as goal

abbrev pub invariant-loop-j : goal.invariant-loop-j
invariant-loop-j l = l.cells ≡ laid l.at (list_to l.j (power_at l.col l.first)) l.fn.cells
