-- The rows so far are laid.
use Rattle.rows.specs.Inner.{RowsOver}
use Rattle.raising.specs.Inner.{raised_row}
use Rattle.raising.proofs.raise_each.Given as goal

abbrev pub invariant-loop-j : goal.invariant-loop-j
invariant-loop-j l = RowsOver l.to l.m l.j l.e (raised_row l.fn.s l.front l.back l.k) l.fn.s l.s
