-- One payslip a turn: the state of a loop over payslips, with Straus's payslip.
use Rattle.products.specs.Inner.{steps_in}
use Rattle.methods.proofs.Paying.{Paying}
use Rattle.straus.specs.Straus.{straus_payslip}
use Rattle.straus_emit.proofs.make_payslips.Given as goal

abbrev pub invariant-loop-i : goal.invariant-loop-i
invariant-loop-i l =
    Paying l.q (straus_payslip l.p l.amounts l.k) (steps_in l.fn.steps l.fn.progress.steps) l.fn.steps l.initial.output-items l.i l.steps l.output-items l.s
