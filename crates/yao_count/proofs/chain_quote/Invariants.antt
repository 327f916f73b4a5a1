-- One payslip a turn: the squarings and the steps of the payslips so far, and likewise their parts of the ceiling. Each adds few.
use Rattle.std.proofs.Common.{◌≡◌, ◌+◌, ◌*◌, ◌≤◌}
use Rattle.digits.specs.Range.{sum_to}
use Rattle.yao.specs.Yao.{yao_payslip_count, yao_payslip_ceiling}
use Rattle.yao_count.specs.Inner.{yao_payslip_most}
use Rattle.yao_count.proofs.chain_quote.Given as goal

abbrev pub invariant-loop-i : goal.invariant-loop-i
invariant-loop-i l = record {
  counted : l.count ≡ l.squarings + sum_to l.i (yao_payslip_count l.p l.q l.amounts l.k);
  count_low : l.count ≤ l.squarings + yao_payslip_most * l.i;
  ceiled : l.ceiling ≡ l.squarings + sum_to l.i (yao_payslip_ceiling l.p l.q l.amounts l.k);
  ceiling_low : l.ceiling ≤ l.squarings + yao_payslip_most * l.i;
}
