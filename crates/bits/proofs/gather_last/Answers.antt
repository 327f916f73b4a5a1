-- A byte is taken from what is still to be added; past the end there is nothing to add.
use Rattle.std.proofs.Common.{arith}
use Rattle.bits.proofs.Take.{gather_on, gather_fits, gather_end}
use Rattle.bits.proofs.gather_last.Goals as goal

pub overflow_add-x : goal.overflow_add-x
overflow_add-x c = record { fits = gather_fits _ _ _ _ c.loop-j.invariant c.requires.few (omega arith) _ c.byte.ensures }

pub loop-j-preserved : goal.loop-j-preserved
loop-j-preserved c = gather_on _ _ _ _ c.loop-j.invariant c.requires.few (omega arith) _ c.byte.ensures

pub returns : goal.returns
returns c = gather_end _ _ _ _ c.loop-j.invariant (omega arith)
