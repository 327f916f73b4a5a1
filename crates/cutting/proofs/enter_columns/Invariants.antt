-- The columns so far are entered, so the row holds fewer than c bits, and one column more still fits a word.
use Rattle.cutting.specs.Inner.{Entered}
use Rattle.cutting.proofs.enter_columns.Given as goal

abbrev pub invariant-loop-col : goal.invariant-loop-col
invariant-loop-col l = Entered l.s l.amounts l.i l.col l.r l.fn.cells l.cells
