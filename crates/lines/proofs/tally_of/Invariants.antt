-- At each turn the tally of the whole line is reached from that at hand by the bytes that are left.
use Rattle.lines.proofs.Lines.{Tallies}
use Rattle.lines.proofs.tally_of.Given as goal

abbrev pub invariant-loop-b : goal.invariant-loop-b
invariant-loop-b l = Tallies l.line l.so_far l.gap l.b-index
