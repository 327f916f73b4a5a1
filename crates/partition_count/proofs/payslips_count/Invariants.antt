-- The steps of the payslips so far, at most as many for each as there can be groups.
use Rattle.std.proofs.Common.{◌≡◌, ◌*◌, ◌≤◌}
use Rattle.digits.specs.Range.{sum_to}
use Rattle.groups.specs.Groups.{most_inputs}
use Rattle.partition.specs.Partition.{join_count}
use Rattle.partition_count.proofs.payslips_count.Given as goal

abbrev pub invariant-loop-i : goal.invariant-loop-i
invariant-loop-i l = (l.n ≡ sum_to l.i (join_count l.s.p l.s.q l.amounts l.s.c l.s.groups)) × (l.n ≤ most_inputs * l.i)
