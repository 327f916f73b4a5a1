-- After c columns what was found is that of the first c; cells past the values never changed.
use Rattle.std.proofs.Common.{◌≡◌, ◌+◌, length, drop}
use Rattle.verify.proofs.Columns.{HeldTo}
use Rattle.checker.proofs.hold.Given as goal

abbrev pub invariant-loop-c : goal.invariant-loop-c
invariant-loop-c g l =
    let steps = g.S.StepList.list l.steps in
    let top = l.p + length steps + 1 in
    HeldTo l.p l.amounts steps l.outputs l.c l.found × (drop top l.scratch ≡ drop top l.fn.scratch)
