-- The steps of the payslips so far are added to the table's, and so are their parts of the ceiling. Each payslip adds few, so the sums fit.
use Rattle.std.proofs.Common.{◌≡◌, ◌+◌, ◌*◌, ◌≤◌}
use Rattle.digits.specs.Range.{sum_to}
use Rattle.straus.specs.Straus.{straus_payslip_count, straus_payslip_ceiling}
use Rattle.straus_count.specs.Inner.{straus_payslip_most}
use Rattle.straus_count.proofs.quote.Given as goal

abbrev pub invariant-loop-i : goal.invariant-loop-i
invariant-loop-i l = record {
  counted : l.count ≡ l.table + sum_to l.i (straus_payslip_count l.p l.amounts l.k);
  count_low : l.count ≤ l.table + straus_payslip_most * l.i;
  ceiled : l.ceiling ≡ l.table + sum_to l.i (straus_payslip_ceiling l.p l.amounts l.k);
  ceiling_low : l.ceiling ≤ l.table + straus_payslip_most * l.i;
}
