-- One digit a turn, the top one first: Horner's product of the digits so far.
use Rattle.std.proofs.Common.{◌-◌}
use Rattle.products.specs.Inner.{steps_in, Emitted}
use Rattle.straus_emit.specs.Inner.{digits_made}
use Rattle.straus_emit.proofs.take_digits.Given as goal

abbrev pub invariant-loop-j : goal.invariant-loop-j
invariant-loop-j l =
    Emitted l.fn.steps l.steps l.r.progress l.r.value
    (digits_made l.p l.k l.inputs l.cells l.masks l.digits (steps_in l.fn.steps l.fn.progress.steps) (l.digits - l.j))
