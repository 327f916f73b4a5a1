-- A column that is taken up was the earliest so far; what it leaves ends where the values do.
use Rattle.std.proofs.Common.{◌∙◌, ◌+◌, length, refl, arith}
use Rattle.chain.proofs.Limits.{outputs_low}
use Rattle.verify.proofs.Columns.{held_none, held_next, held_all, summed_past}
use Rattle.checker.proofs.hold.Goals as goal

pub take_up-found-requires : goal.take_up-found-requires
take_up-found-requires g c =
    let steps = g.S.StepList.list c.args.steps.now in
    let sound = c.requires.chain_sound in
    record {
      column = c.loop-c-test.true;
      amounts_fit = c.requires.amounts_fit;
      outputs_within = λ i h. omega (
        arith,
        outputs_low (c.args.p + length steps) 1 c.args.outputs.now sound.outputs_fine i h,
        c.column-place.auto.scratch,
        c.loop-c.auto.scratch,
        sound.steps_sound.room,
      );
    }

pub loop-c-init : goal.loop-c-init
loop-c-init g c = (held_none _ _ _ _, refl)

pub loop-c-preserved : goal.loop-c-preserved
loop-c-preserved g c =
    let steps = g.S.StepList.list c.args.steps.now in (
      held_next _ _ steps _ _ _ _ _ _ _ c.requires.chain_sound.outputs_fine c.column-place.ensures c.take_up-found.ensures c.loop-c.invariant.0,
      summed_past _ _ _ steps _ _ _ refl c.column-place.ensures ∙ c.loop-c.invariant.1,
    )

pub returns : goal.returns
returns g c =
    record {
      verdict = held_all _ _ _ _ _ _ c.loop-c-test.false c.loop-c.auto.c-end c.loop-c.invariant.0;
      past = c.loop-c.invariant.1;
    }
