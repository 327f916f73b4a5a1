-- The bytes so far are laid.
use Rattle.chain.proofs.Laying.{LaidTo}
use Rattle.decimal.proofs.put_word.Given as goal

abbrev pub invariant-loop-i : goal.invariant-loop-i
invariant-loop-i l = LaidTo l.word l.at l.fn.text l.i l.text
