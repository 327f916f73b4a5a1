-- At each turn the verdict on the whole list is the verdict on the steps that are left.
use Rattle.std.proofs.Common.{◌≡◌}
use Rattle.chain.specs.Chain.{steps_rule}
use Rattle.chain.proofs.Steps.{steps_left}
use Rattle.legal.proofs.judge_each.Given as goal

abbrev pub invariant-loop-s : goal.invariant-loop-s
invariant-loop-s g l =
    steps_rule l.p 1 (g.S.StepList.list l.steps) ≡ steps_left l.p (g.S.StepList.list l.steps) l.s
