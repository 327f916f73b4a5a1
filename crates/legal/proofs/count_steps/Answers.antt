-- A turn counts its step with those before it; once all are counted, nothing is left.
use Rattle.std.proofs.Common.{◌≤◌, ◌<◌, length, arith}
use Rattle.legal.proofs.Counting.{legal_start, legal_one, squarings_start, add_on, add-end}
use Rattle.legal.proofs.count_steps.Goals as goal

pub loop-s-init : goal.loop-s-init
loop-s-init g c = (omega arith, omega arith, omega arith, legal_start _ _, squarings_start _)

pub loop-s-preserved : goal.loop-s-preserved
loop-s-preserved g c =
    let there : c.loop-s.s < length (g.S.StepList.list c.args.steps.now) = omega arith in (
      omega arith,
      omega arith,
      omega arith,
      add_on _ _ _ _ _ _ _ there c.at-x.ensures (legal_one _ _ _ _ _ c.loop-s.invariant.2 c.legal-legal.ensures) c.loop-s.invariant.3,
      add_on _ _ _ _ _ _ _ there c.at-x.ensures c.equal-squarings.ensures.is c.loop-s.invariant.4,
    )

pub returns : goal.returns
returns g c =
    let all : length (g.S.StepList.list c.args.steps.now) ≤ c.loop-s.s = omega arith in
    record { legal_are = add-end _ _ _ _ _ all c.loop-s.invariant.3; squarings_are = add-end _ _ _ _ _ all c.loop-s.invariant.4 }
