-- What is found first answers; else the columns' verdict does, and the cleared scratch is what the definition says.
use Rattle.std.proofs.Common.{◌≡◌, ◌∙◌, sym, refl, arith, rules, Err}
use Rattle.chain.proofs.Legal.{legal_parts, chain_parts}
use Rattle.chain.proofs.Squarings.{squarings_few, counts_are, found_refused, found_fine, found_number}
use Rattle.verify.proofs.Fitting.{fitting}
use Rattle.verify.proofs.Answers.{early_answer, early_scratch, late_answer, late_scratch}
use Rattle.checker.proofs.verify_steps.Goals as goal

pub returns-in_err-squarings-clause-result_value : goal.returns-in_err-squarings-clause-result_value
returns-in_err-squarings-clause-result_value g c =
    let told : c.from_residual.result ≡ Err c.in_err-squarings.field-0.0 = search rules in
    rw told (early_answer _ _ _ _ c.args.scratch.now _ _ (found_refused _ _ _ _ c.in_err-squarings.ensures))

pub returns-in_err-squarings-clause-scratch_after : goal.returns-in_err-squarings-clause-scratch_after
returns-in_err-squarings-clause-scratch_after g c =
    early_scratch _ _ _ _ c.args.scratch.now _ _ (found_refused _ _ _ _ c.in_err-squarings.ensures)

pub hold-found-requires : goal.hold-found-requires
hold-found-requires g c =
    let fits = fitting _ _ _ _ _ (sym (found_fine _ _ _ c.in_ok-squarings.ensures)) in
    let legal = legal_parts _ _ _ fits.legal in
    let parts = chain_parts _ _ _ legal.chain in
    record {
      chain_sound =
          record {
            steps_sound = record { p_low = legal.sizes.p_low; steps_fine = parts.0; room = omega (arith, fits.room) };
            outputs_fine = parts.1;
          };
      amounts_fit = fits.amounts_fit;
    }

pub counts_of-requires : goal.counts_of-requires
counts_of-requires g c =
    omega (arith, found_number _ _ _ c.in_ok-squarings.ensures, squarings_few (g.S.StepList.list c.args.steps.now), c.count-n.ensures)

pub overflow_add-p : goal.overflow_add-p
overflow_add-p g c =
    let fits = fitting _ _ _ _ _ (sym (found_fine _ _ _ c.in_ok-squarings.ensures)) in
    omega (arith, fits.room, c.count-n.ensures)

pub overflow_add-p-2 : goal.overflow_add-p-2
overflow_add-p-2 g c =
    let fits = fitting _ _ _ _ _ (sym (found_fine _ _ _ c.in_ok-squarings.ensures)) in
    omega (arith, fits.room, c.count-n.ensures)

pub finish-requires : goal.finish-requires
finish-requires g c =
    let fits = fitting _ _ _ _ _ (sym (found_fine _ _ _ c.in_ok-squarings.ensures)) in
    omega (arith, fits.room, c.count-n.ensures, c.hold-found.auto.scratch)

pub returns-clause-result_value : goal.returns-clause-result_value
returns-clause-result_value g c =
    let steps = g.S.StepList.list c.args.steps.now in
    let allowed = found_fine _ _ _ c.in_ok-squarings.ensures in
    let told = c.counts_of.ensures ∙ counts_are steps _ _ c.count-n.ensures (found_number _ _ _ c.in_ok-squarings.ensures) in
    late_answer _ steps _ _ c.args.scratch.now allowed _ _ _ _ _ _ c.finish.ensures told c.hold-found.ensures.verdict

pub returns-clause-scratch_after : goal.returns-clause-scratch_after
returns-clause-scratch_after g c =
    let steps = g.S.StepList.list c.args.steps.now in
    let allowed = found_fine _ _ _ c.in_ok-squarings.ensures in
    let finished = rw c.count-n.ensures at c.finish.ensures in
    late_scratch _ steps _ _ c.args.scratch.now allowed _ _ _ _ _ _ finished refl c.hold-found.ensures.past
