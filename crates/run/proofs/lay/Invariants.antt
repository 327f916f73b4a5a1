-- The numbers so far are laid.
use Rattle.chain.proofs.Laying.{LaidTo}
use Rattle.run.proofs.lay.Given as goal

abbrev pub invariant-loop-i : goal.invariant-loop-i
invariant-loop-i l = LaidTo l.numbers l.at l.fn.cells l.i l.cells
