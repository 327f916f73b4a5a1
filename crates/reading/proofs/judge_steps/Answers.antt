-- Each turn judges one step, counts it and moves past it.
use Rattle.std.proofs.Common.{◌≡◌, rules, Err}
use Rattle.chain.proofs.Squarings.{counted_refused, counted_done}
use Rattle.fields.proofs.Taking.{number_fits}
use Rattle.reading.proofs.Judging.{steps_within, steps_start, step_room, step_bad, step_on, steps_end, squarings_end}
use Rattle.reading.proofs.judge_steps.Goals as goal

pub loop-s-init : goal.loop-s-init
loop-s-init c = steps_start _ _ _ _ _ (steps_within _ _ c.requires.contained)

pub take_two-step-requires : goal.take_two-step-requires
take_two-step-requires c = step_room _ _ _ _ _ _ _ _ _ c.loop-s.invariant c.loop-s-test.true c.requires.long

pub overflow_cast-a : goal.overflow_cast-a
overflow_cast-a c = record { fits = number_fits _ _ c.loop-s.invariant.room.narrow c.take_two-step.ensures.first.small }

pub overflow_cast-b : goal.overflow_cast-b
overflow_cast-b c = record { fits = number_fits _ _ c.loop-s.invariant.room.narrow c.take_two-step.ensures.second.small }

pub returns-in_err-judge_step : goal.returns-in_err-judge_step
returns-in_err-judge_step c =
    let told : c.from_residual.result ≡ Err c.in_err-judge_step.field-0.0 = search rules in
    rw told
    (counted_refused _ _ _ _
    (step_bad _ _ _ _ _ _ _ _ _ c.loop-s.invariant c.loop-s-test.true _ _ _ c.take_two-step.ensures _ _ c.in_err-judge_step.ensures))

pub loop-s-preserved : goal.loop-s-preserved
loop-s-preserved c =
    step_on _ _ _ _ _ _ _ _ _ c.loop-s.invariant c.loop-s-test.true _ _ _ c.take_two-step.ensures c.in_ok-judge_step.ensures _
    c.squaring-squarings.ensures

pub returns : goal.returns
returns c =
    let left = c.loop-s.invariant in
    counted_done _ _ _ (steps_end _ _ _ _ _ _ _ _ _ left c.loop-s-test.false) (squarings_end _ _ _ _ _ _ _ _ _ left c.loop-s-test.false)
