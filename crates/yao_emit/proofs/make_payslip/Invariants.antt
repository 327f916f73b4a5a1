-- One column a turn: the payslip's product of the columns so far, and the value after which the next column's powers are made.
use Rattle.std.proofs.Common.{◌≡◌, ◌+◌, ◌*◌, ◌≤◌}
use Rattle.digits.specs.Range.{sum_to}
use Rattle.products.specs.Inner.{steps_in, Emitted}
use Rattle.yao.specs.Yao.{yao_squarings, yao_payslip}
use Rattle.yao.specs.Inner.{squarings_most}
use Rattle.yao_emit.proofs.make_payslip.Given as goal

abbrev pub invariant-loop-c : goal.invariant-loop-c
invariant-loop-c l = record {
  after : l.first ≡ l.p + sum_to l.c (yao_squarings l.p l.q l.amounts l.k);
  low : l.first ≤ l.p + squarings_most * l.c;
  paid : Emitted l.fn.steps l.steps l.r.progress l.r.value (yao_payslip l.p l.q l.amounts l.k l.i (steps_in l.fn.steps l.fn.progress.steps) l.c);
}
