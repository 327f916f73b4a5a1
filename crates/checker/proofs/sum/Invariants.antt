-- After s turns the scratch has the sums of the first s steps, and the first place over the limit is the first among those that are left.
use Rattle.std.proofs.Common.{◌≡◌, ◌+◌, drop}
use Rattle.chain.proofs.Filling.{made_to}
use Rattle.verify.specs.Verify.{first_over}
use Rattle.verify.proofs.Over.{over_left}
use Rattle.verify.proofs.Sums.{sums}
use Rattle.checker.proofs.sum.Given as goal

abbrev pub invariant-loop-s : goal.invariant-loop-s
invariant-loop-s g l =
    let all = sums l.p (g.S.StepList.list l.steps) l.fn.scratch in
    (l.scratch ≡ made_to ◌+◌ l.p (g.S.StepList.list l.steps) l.s l.fn.scratch) × (first_over 1 (drop (l.p + 1) all) ≡ over_left l.p all l.s)
