-- One column a turn: the sum of what stood under the masks so far, which is low as the whole is.
use Rattle.std.proofs.Common.{◌≡◌}
use Rattle.digits.specs.Range.{sum_to}
use Rattle.straus_emit.specs.Inner.{masked_at}
use Rattle.straus_emit.proofs.vector.Given as goal

abbrev pub invariant-loop-c : goal.invariant-loop-c
invariant-loop-c l = l.v ≡ sum_to l.c (masked_at l.cells l.masks l.s)
