-- One lower digit a turn: the squarings and the nonzero digits so far. Each turn adds at most 1, so the sum fits.
use Rattle.std.proofs.Common.{◌≡◌, ◌+◌, ◌*◌}
use Rattle.straus_count.proofs.Counting.{signs_to}
use Rattle.straus_count.proofs.payslip_quote.Given as goal

abbrev pub invariant-loop-j : goal.invariant-loop-j
invariant-loop-j l = l.count ≡ l.lower * l.k + signs_to l.p l.amounts l.k l.i l.j
