-- The operands of a legal step stand before its value; the sum at hand is that step's value, so the first that is too large is met at its place.
use Rattle.std.proofs.Common.{◌<◌, ◌≤◌, length, arith}
use Rattle.chain.specs.Chain.{most_amount}
use Rattle.chain.proofs.Steps.{first_within, second_within}
use Rattle.chain.proofs.Filling.{fill_start, fill_on}
use Rattle.verify.proofs.Over.{over_start}
use Rattle.verify.proofs.Sums.{sum_on, sum_bad, sum-end, sums_stopped, sums_all}
use Rattle.checker.proofs.sum.Goals as goal

pub loop-s-init : goal.loop-s-init
loop-s-init g c = (fill_start _ _ _ _ c.requires.room, search over_start)

pub bounds-scratch-a : goal.bounds-scratch-a
bounds-scratch-a g c =
    let there : c.loop-s.s < length (g.S.StepList.list c.args.steps.now) = omega arith in
    first_within _ _ _ _ _ c.at-x.ensures there c.requires.steps_fine (omega arith)

pub bounds-scratch-b : goal.bounds-scratch-b
bounds-scratch-b g c =
    let there : c.loop-s.s < length (g.S.StepList.list c.args.steps.now) = omega arith in
    second_within _ _ _ _ _ c.at-x.ensures there c.requires.steps_fine (omega arith)

pub returns-then-from-e : goal.returns-then-from-e
returns-then-from-e g c =
    let steps = g.S.StepList.list c.args.steps.now in
    let there : c.loop-s.s < length steps = omega arith in
    let large : most_amount < c.plus-e.result = omega (arith, c.from.ensures) in
    record {
      place =
          sum_bad _ _ _ _ _ _ _ _ (record { there = there; legal = c.requires.steps_fine; room = c.requires.room }) c.at-x.ensures c.plus-e.ensures
          c.loop-s.invariant.0 large c.loop-s.invariant.1;
      cells = sums_stopped _ _ _ _ _ c.loop-s.invariant.0;
    }

pub loop-s-preserved : goal.loop-s-preserved
loop-s-preserved g c =
    let steps = g.S.StepList.list c.args.steps.now in
    let there : c.loop-s.s < length steps = omega arith in
    let low : c.plus-e.result ≤ most_amount = omega (arith, c.from.ensures) in (
      fill_on _ _ _ _ _ _ _ _ there c.at-x.ensures c.requires.steps_fine c.requires.room c.plus-e.ensures c.loop-s.invariant.0,
      sum_on _ _ _ _ _ _ _ _ (record { there = there; legal = c.requires.steps_fine; room = c.requires.room }) c.at-x.ensures c.plus-e.ensures
          c.loop-s.invariant.0 low c.loop-s.invariant.1,
    )

pub returns : goal.returns
returns g c =
    let all : length (g.S.StepList.list c.args.steps.now) ≤ c.loop-s.s = omega arith in
    record { place = sum-end _ _ _ _ c.loop-s.scratch _ all c.requires.room c.loop-s.invariant.1; cells = sums_all _ _ _ _ _ all c.loop-s.invariant.0 }
