-- One column a turn: the steps of the amounts so far, their parts of the ceiling, and how many of them are not 0.
use Rattle.std.proofs.Common.{◌≡◌, ◌*◌, ◌≤◌}
use Rattle.yao_count.specs.Inner.{amount_most}
use Rattle.yao_count.proofs.Counting.{amounts_to, ceilings_to, nonzero_to}
use Rattle.yao_count.proofs.payslip_quote.Given as goal

abbrev pub invariant-loop-c : goal.invariant-loop-c
invariant-loop-c l = record {
  counted : l.count ≡ amounts_to l.p l.q l.amounts l.k l.i l.c;
  count_low : l.count ≤ amount_most * l.c;
  ceiled : l.ceiling ≡ ceilings_to l.p l.q l.amounts l.k l.i l.c;
  ceiling_low : l.ceiling ≤ amount_most * l.c;
  told : l.nonzero ≡ nonzero_to l.p l.amounts l.i l.c;
  few : l.nonzero ≤ l.c;
}
