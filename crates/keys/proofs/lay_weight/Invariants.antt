-- What is left of the numbers is still to be laid over the slice.
use Rattle.keys.proofs.Laying.{MembersTo}
use Rattle.keys.proofs.lay_weight.Given as goal

abbrev pub invariant-loop-i : goal.invariant-loop-i
invariant-loop-i l = MembersTo l.to l.n l.weight l.r l.fn.s l.w l.e l.i l.s
