-- The parts so far are cut.
use Rattle.std.proofs.Common.{◌-◌}
use Rattle.cuts.proofs.Rowing.{RowTo}
use Rattle.cuts.proofs.cut_row.Given as goal

abbrev pub invariant-loop-i : goal.invariant-loop-i
invariant-loop-i l = RowTo l.fn.s l.from l.to l.a l.b l.keys l.rest l.i l.ends.keys l.ends.rest l.s

abbrev pub decreases-loop-i : goal.decreases-loop-i
decreases-loop-i l = l.to - l.i
