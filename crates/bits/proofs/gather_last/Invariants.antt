-- What the eight bytes come to is x and what the bytes still to be added come to.
use Rattle.bits.proofs.Take.{Gathering}
use Rattle.bits.proofs.gather_last.Given as goal

abbrev pub invariant-loop-j : goal.invariant-loop-j
invariant-loop-j l = Gathering l.file l.i l.x l.j
