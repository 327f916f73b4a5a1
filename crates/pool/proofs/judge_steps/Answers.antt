-- Both parts keep to the limits of a chain, so their steps, squarings and places can be added.
use Rattle.std.proofs.Common.{◌+◌, ap₂, arith}
use Rattle.chain.specs.Chain.{pairs}
use Rattle.chain.proofs.Pairs.{length_pairs}
use Rattle.chain.proofs.Rules.{pass}
use Rattle.chain.proofs.Squarings.{squarings_few, counted_refused, counted_done, found_refused, found_fine, found_number}
use Rattle.pool.specs.Pool.{both_steps_rule}
use Rattle.pool.proofs.Counted.{passed_on, refused_on}
use Rattle.pool.proofs.Places.{steps_place_low}
use Rattle.pool.proofs.judge_steps.Goals as goal

pub judge_steps-requires : goal.judge_steps-requires
judge_steps-requires c = omega (arith, length_pairs c.args.steps1.now, c.requires.p_low, c.requires.n_low)

pub judge_steps-requires-2 : goal.judge_steps-requires-2
judge_steps-requires-2 c = omega (arith, length_pairs c.args.steps2.now, c.requires.p'_low, c.requires.n'_low)

pub overflow_add-result : goal.overflow_add-result
overflow_add-result c =
    omega (
      arith,
      found_number _ _ _ c.in_ok-first.ensures,
      found_number _ _ _ c.in-Ok.ensures,
      squarings_few (pairs c.args.steps1.now),
      squarings_few (pairs c.args.steps2.now),
      length_pairs c.args.steps1.now,
      length_pairs c.args.steps2.now,
      c.requires,
    )

pub count_on-requires : goal.count_on-requires
count_on-requires c =
    record {
      before_low = c.requires.n_low;
      place_low = steps_place_low _ c.args.steps2.now _ (found_refused _ _ _ _ c.in-Err.ensures) c.requires.n'_low;
    }

pub returns-in-Ok : goal.returns-in-Ok
unfolding both_steps_rule
returns-in-Ok c =
    let first = c.in_ok-first.ensures in
    let second = c.in-Ok.ensures in
    counted_done _ _ _ (pass _ _ _ (found_fine _ _ _ first) (passed_on _ _ (found_fine _ _ _ second)))
    (ap₂ ◌+◌ (found_number _ _ _ first) (found_number _ _ _ second))

pub returns-in-Err : goal.returns-in-Err
unfolding both_steps_rule
returns-in-Err c =
    let told = refused_on _ _ _ _ _ (found_refused _ _ _ _ c.in-Err.ensures) c.count_on.ensures in
    counted_refused _ _ _ _ (pass _ _ _ (found_fine _ _ _ c.in_ok-first.ensures) (rw (length_pairs c.args.steps1.now) told))
