-- The product of the parts so far is emitted.
use Rattle.products.specs.Inner.{steps_in, Emitted}
use Rattle.methods.specs.Powers.{counts_of}
use Rattle.partition_emit.specs.Inner.{parts_by}
use Rattle.partition_emit.proofs.make_parts.Given as goal

abbrev pub invariant-loop-g : goal.invariant-loop-g
invariant-loop-g l =
    Emitted l.fn.steps l.steps l.r.progress l.r.value
    (parts_by l.s l.members (counts_of l.numbers) (steps_in l.fn.steps l.fn.progress.steps) l.g)
