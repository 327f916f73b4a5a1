-- The payslips so far are emitted one after the other.
use Rattle.products.specs.Inner.{steps_in}
use Rattle.methods.proofs.Paying.{Paying}
use Rattle.partition_emit.specs.Inner.{payslip_of}
use Rattle.partition_emit.proofs.make_payslips.Given as goal

abbrev pub invariant-loop-i : goal.invariant-loop-i
invariant-loop-i l =
    Paying l.s.q (payslip_of l.s l.amounts) (steps_in l.fn.steps l.fn.progress.steps) l.fn.steps l.fn.outputs l.i l.steps l.outputs l.progress
