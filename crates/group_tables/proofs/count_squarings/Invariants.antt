-- The cells hold the counts of the columns so far.
use Rattle.std.proofs.Common.{length}
use Rattle.methods.proofs.Filling.{FilledTo}
use Rattle.groups.specs.Inner.{bits_less}
use Rattle.group_tables.proofs.count_squarings.Given as goal

abbrev pub invariant-loop-col : goal.invariant-loop-col
invariant-loop-col l = FilledTo (bits_less l.bits 1) l.fn.cells (length l.bits) l.col l.cells
