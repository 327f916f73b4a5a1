-- One payslip a turn: the largest amount of the payslips so far.
use Rattle.std.proofs.Common.{◌≡◌}
use Rattle.methods.specs.Powers.{largest_in}
use Rattle.measuring.proofs.largest_in.Given as goal

abbrev pub invariant-loop-i : goal.invariant-loop-i
invariant-loop-i l = l.most ≡ largest_in l.p l.i l.amounts l.c
