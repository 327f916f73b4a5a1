-- The cells so far are laid, each raised.
use Rattle.raising.proofs.Raising.{RaisedTo}
use Rattle.raising.proofs.raise.Given as goal

abbrev pub invariant-loop-i : goal.invariant-loop-i
invariant-loop-i l = RaisedTo l.fn.s l.from l.to l.k l.r l.e l.i l.s
