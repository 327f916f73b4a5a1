-- The bytes so far are laid.
use Rattle.chain.proofs.Laying.{LaidTo}
use Rattle.bits.proofs.lengthen.Given as goal

abbrev pub invariant-loop-i : goal.invariant-loop-i
invariant-loop-i l = LaidTo l.file 0 l.fn.long l.i l.long
