-- The sum over the columns so far, at most 32 for each.
use Rattle.std.proofs.Common.{◌≡◌, ◌*◌, ◌≤◌}
use Rattle.groups.proofs.Counting.{less_to}
use Rattle.groups.proofs.column_sum.Given as goal

abbrev pub invariant-loop-b : goal.invariant-loop-b
invariant-loop-b l = (l.s ≡ less_to l.bits l.less l.b-index) × (l.s ≤ 32 * l.b-index)
