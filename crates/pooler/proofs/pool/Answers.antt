-- What was found against the parts answers, then what is lent; where nothing is found, both lists of each kind, put one after the other, are the pool's.
use Rattle.std.proofs.Common.{◌≡◌, ◌∙◌, ◌*◌, ◌/◌, List, ℕ, length, sym, ap, refl, arith, rules, Err}
use lib.Seq.{length-take-le}
use Rattle.chain.specs.Written.{over}
use Rattle.chain.specs.Chain.{pairs}
use Rattle.chain.proofs.Pairs.{length_pairs}
use Rattle.chain.proofs.Squarings.{squarings_few, counts_are, found_refused, found_fine, found_number}
use Rattle.pool.specs.Pool.{part, pooled_steps}
use Rattle.pool.proofs.Poolable.{poolable}
use Rattle.pool.proofs.Squarings.{squarings_pooled}
use Rattle.pooler.proofs.Pooling.{steps_renumberable, outputs_renumberable, flat_pool, parts_refused, steps_short, outputs_short, room_enough, refused_leaves, pooled_leaves}
use Rattle.pooler.proofs.pool.Goals as goal
use Rattle.pooler.proofs.pool.Goals.{then-steps-n1-via-then-steps-n1, then-steps-n1-via-else-steps-n1+then-outputs-outputs1}

pub returns-in_err-squarings : goal.returns-in_err-squarings
returns-in_err-squarings c =
    let told : c.from_residual.result ≡ Err c.in_err-squarings.field-0.0 = search rules in
    let leaves = refused_leaves _ _ _ _ _ _ (parts_refused _ _ _ _ _ _ (found_refused _ _ _ _ c.in_err-squarings.ensures)) in
    record { result_value = rw told leaves.0; steps_after = leaves.1.0; outputs_after = leaves.1.1 }

pub returns-then-steps-n1 : goal.returns-then-steps-n1
returns-then-steps-n1 c =
    let a = c.args in
    let agreed = found_fine _ _ _ c.in_ok-squarings.ensures in
    let pool = flat_pool a.p1 a.p2 a.steps1.now a.steps2.now a.outputs1.now a.outputs2.now in
    let leaves =
    refused_leaves (part a.p1 (pairs a.steps1.now) a.outputs1.now) (part a.p2 (pairs a.steps2.now) a.outputs2.now) a.steps.now a.outputs.now 5 0
    (elim c.then-steps-n1.branch [
      | then-steps-n1-via-then-steps-n1 w ↦ steps_short _ _ _ _ agreed (omega (arith, pool.count, w.if-steps-n1.true))
      | then-steps-n1-via-else-steps-n1+then-outputs-outputs1 w ↦ outputs_short _ _ _ _ agreed (omega (arith, pool.payslips, w.if-outputs-outputs1.true))
    ]) in
    record { result_value = rw c.into.ensures leaves.0; steps_after = leaves.1.0; outputs_after = leaves.1.1 }

pub overflow_cast-to : goal.overflow_cast-to
overflow_cast-to c = omega (arith, (poolable _ _ (sym (found_fine _ _ _ c.in_ok-squarings.ensures))).sizes')

pub overflow_cast-to-2 : goal.overflow_cast-to-2
overflow_cast-to-2 c =
    omega (arith, (poolable _ _ (sym (found_fine _ _ _ c.in_ok-squarings.ensures))).few, length_pairs c.args.steps1.now, length_pairs c.args.steps2.now)

pub put-requires : goal.put-requires
put-requires c =
    let a = c.args in
    let are = poolable _ _ (sym (found_fine _ _ _ c.in_ok-squarings.ensures)) in
    let first = length_pairs a.steps1.now in
    let second = length_pairs a.steps2.now in
    record {
      low =
          steps_renumberable a.p2 _ _ are.sizes'.p_low (omega (arith, are.few, first, second)) (omega (arith, are.few, first, second)) a.steps2.now refl
          are.steps_fine';
      room = omega (
        arith,
        length-take-le (2 * (length a.steps1.now / 2)) a.steps1.now (omega arith),
        length-take-le (2 * (length a.steps2.now / 2)) a.steps2.now (omega arith),
        c.if-steps-n1.false,
      );
    }

pub put-requires-2 : goal.put-requires-2
put-requires-2 c =
    let a = c.args in
    let are = poolable _ _ (sym (found_fine _ _ _ c.in_ok-squarings.ensures)) in
    record {
      low =
          outputs_renumberable a.p2 _ (length (pairs a.steps2.now)) are.sizes'.p_low
          (omega (arith, are.few, length_pairs a.steps1.now)) (omega (arith, are.few)) a.outputs2.now are.outputs_fine';
      room = omega (arith, c.if-outputs-outputs1.false);
    }

pub counts_of-requires : goal.counts_of-requires
counts_of-requires c =
    let a = c.args in
    let first = part a.p1 (pairs a.steps1.now) a.outputs1.now in
    let second = part a.p2 (pairs a.steps2.now) a.outputs2.now in
    omega (
      arith,
      found_number _ _ _ c.in_ok-squarings.ensures,
      squarings_pooled first second,
      squarings_few (pooled_steps first second),
      (flat_pool a.p1 a.p2 a.steps1.now a.steps2.now a.outputs1.now a.outputs2.now).count,
    )

pub returns : goal.returns
returns c =
    let a = c.args in
    let first = part a.p1 (pairs a.steps1.now) a.outputs1.now in
    let second = part a.p2 (pairs a.steps2.now) a.outputs2.now in
    let agreed = found_fine _ _ _ c.in_ok-squarings.ensures in
    let pool = flat_pool a.p1 a.p2 a.steps1.now a.steps2.now a.outputs1.now a.outputs2.now in
    let counted = found_number _ _ _ c.in_ok-squarings.ensures ∙ sym (squarings_pooled first second) in
    let told = c.counts_of.ensures ∙ counts_are (pooled_steps first second) _ _ pool.count counted in
    let leaves =
    pooled_leaves first second a.steps.now a.outputs.now _ _ _
    (room_enough _ _ _ _ agreed (omega (arith, pool.count, c.if-steps-n1.false)) (omega (arith, pool.payslips, c.if-outputs-outputs1.false))) told
    (c.put.ensures ∙ ap (λ (l : List ℕ). over l a.steps.now) pool.steps)
    (c.put-2.ensures ∙ ap (λ (l : List ℕ). over l a.outputs.now) pool.outputs) in
    record { result_value = leaves.0; steps_after = leaves.1.0; outputs_after = leaves.1.1 }
