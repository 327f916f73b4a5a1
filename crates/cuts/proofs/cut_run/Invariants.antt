-- The keys of the clumps so far are laid.
use Rattle.std.proofs.Common.{◌-◌}
use Rattle.cuts.proofs.Keying.{KeysTo}
use Rattle.cuts.proofs.cut_run.Given as goal

abbrev pub invariant-loop-i : goal.invariant-loop-i
invariant-loop-i l = KeysTo l.fn.s l.from l.to l.b l.limit l.top l.r l.e l.i l.s

abbrev pub decreases-loop-i : goal.decreases-loop-i
decreases-loop-i l = l.to - l.i
