-- The operands of a legal step stand before its value; a turn stores the product of both.
use Rattle.std.proofs.Common.{◌<◌, length, arith}
use Rattle.chain.proofs.Steps.{first_within, second_within}
use Rattle.chain.proofs.Filling.{fill_start, fill_on, fill_end}
use Rattle.runner.proofs.multiply.Goals as goal

pub loop-s-init : goal.loop-s-init
loop-s-init g c = fill_start _ _ _ _ c.requires.steps_sound.room

pub bounds-cells-a : goal.bounds-cells-a
bounds-cells-a g c =
    let there : c.loop-s.s < length (g.S.StepList.list c.args.steps.now) = omega arith in
    first_within _ _ _ _ _ c.at-x.ensures there c.requires.steps_sound.steps_fine (omega arith)

pub bounds-cells-b : goal.bounds-cells-b
bounds-cells-b g c =
    let there : c.loop-s.s < length (g.S.StepList.list c.args.steps.now) = omega arith in
    second_within _ _ _ _ _ c.at-x.ensures there c.requires.steps_sound.steps_fine (omega arith)

pub loop-s-preserved : goal.loop-s-preserved
loop-s-preserved g c =
    let there : c.loop-s.s < length (g.S.StepList.list c.args.steps.now) = omega arith in
    let sound = c.requires.steps_sound in
    fill_on _ _ _ _ _ _ _ _ there c.at-x.ensures sound.steps_fine sound.room c.times.ensures c.loop-s.invariant

pub returns : goal.returns
returns g c = fill_end _ _ _ _ _ _ (omega arith) c.loop-s.invariant
