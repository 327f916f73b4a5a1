-- A column taken up keeps the earliest place and lays its amounts; at the end the place is the verdict.
use Rattle.std.proofs.Common.{◌+◌, length, arith}
use Rattle.chain.specs.Chain.{pairs}
use Rattle.chain.proofs.Rules.{not_fine}
use Rattle.chain.proofs.Limits.{outputs_low}
use Rattle.verify.proofs.Places.{earliest_next}
use Rattle.verify.proofs.Columns.{large_in, exponents_large, exponents_fine}
use Rattle.listing.proofs.Tables.{filled_on}
use Rattle.listing.proofs.measure.Goals as goal

pub gather-requires : goal.gather-requires
gather-requires c =
    let sound = c.requires.chain_sound in
    record {
      column_low = omega (arith, c.loop-c-test.true, sound.steps_sound.p_low);
      figures_able =
          record {
            figures_fit = c.requires.outputs_few;
            outputs_within = λ i h. omega (
              arith,
              outputs_low (c.args.p + length (pairs c.args.steps.now)) 1 c.args.outputs.now sound.outputs_fine i h,
              c.column-place.auto.scratch,
              c.loop-c.auto.scratch,
              sound.steps_sound.room,
            );
          };
      table_whole = omega (arith, c.loop-c.auto.table, c.requires.table_whole);
    }

pub loop-c-preserved : goal.loop-c-preserved
loop-c-preserved c =
    let steps = pairs c.args.steps.now in
    let sound = c.requires.chain_sound in (
      earliest_next c.loop-c.c (large_in c.args.p steps) _ _ _ c.earlier-large.ensures c.loop-c.invariant.0 c.column-place.ensures.place,
      filled_on c.args.p c.loop-c.c steps c.args.outputs.now _ _ _ _ _ _ _ sound.outputs_fine c.requires.outputs_few
          (omega (arith, c.loop-c-test.true, sound.steps_sound.p_low)) (omega (arith, c.loop-c.auto.table, c.requires.table_whole)) c.earlier-large.ensures
          c.column-place.ensures c.loop-c.invariant.1 c.gather.ensures,
    )

pub returns-then-large-ne0 : goal.returns-then-large-ne0
returns-then-large-ne0 c =
    record {
      told_is = exponents_large _ _ _ _ c.loop-c-test.false c.loop-c.auto.c-end c.loop-c.invariant.0 c.if-large-ne0.true;
      holds = λ f. absurd (not_fine f);
    }

pub returns : goal.returns
returns c =
    let none = c.if-large-ne0.false in
    record {
      told_is = exponents_fine _ _ _ _ c.loop-c-test.false c.loop-c.auto.c-end c.loop-c.invariant.0 none;
      holds = λ f. record { each = λ i j hi hj. (c.loop-c.invariant.1 none).each i j hi (omega (arith, c.loop-c-test.false)) };
    }
