-- One digit a turn: how many digits so far are not 0, and the largest. Few digits, each below 256, keep the sum low.
use Rattle.std.proofs.Common.{◌≡◌}
use Rattle.yao_count.proofs.Counting.{signs_to, most_to}
use Rattle.yao_count.proofs.amount_count.Given as goal

abbrev pub invariant-loop-j : goal.invariant-loop-j
invariant-loop-j l = record {
  counted : l.nonzero ≡ signs_to l.k l.x l.j;
  most : l.largest ≡ most_to l.k l.x l.j;
}
