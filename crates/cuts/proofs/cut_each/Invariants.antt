-- The rows so far are cut.
use Rattle.cuts.proofs.Cutting.{RowsCutTo}
use Rattle.cuts.proofs.cut_each.Given as goal

abbrev pub invariant-loop-j : goal.invariant-loop-j
invariant-loop-j l = RowsCutTo l.fn.s l.at l.m l.l.a l.l.b l.keys l.rest l.j l.ends.keys l.ends.rest l.s
