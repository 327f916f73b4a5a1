-- How many parts so far are not empty, at most one for each.
use Rattle.std.proofs.Common.{◌≡◌, ◌≤◌}
use Rattle.partition_count.proofs.Joining.{signs_to}
use Rattle.partition_count.proofs.joins.Given as goal

abbrev pub invariant-loop-x : goal.invariant-loop-x
invariant-loop-x l = (l.n ≡ signs_to l.numbers l.x-index) × (l.n ≤ l.x-index)
