-- One column a turn: the overlay of the columns so far.
use Rattle.std.proofs.Common.{◌≡◌}
use Rattle.straus.proofs.Overlaying.{overlaid_to}
use Rattle.straus.proofs.overlaid.Given as goal

abbrev pub invariant-loop-c : goal.invariant-loop-c
invariant-loop-c l = l.all ≡ overlaid_to l.p l.amounts l.i l.c
