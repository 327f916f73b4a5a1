-- What the judgement found answers; a run that may be made leaves the residues and, of them, the outputs.
use Rattle.std.proofs.Common.{◌≡◌, ◌∙◌, List, ℕ, sym, ap, arith, rules, Err}
use Rattle.chain.specs.Verdict.{done}
use Rattle.chain.proofs.Rules.{answer_refused, answer_done, kept, renewed}
use Rattle.chain.proofs.Squarings.{squarings_few, counts_are, found_refused, found_fine, found_number}
use Rattle.run.specs.Run.{run_answer, run_values, run_figures}
use Rattle.run.proofs.Runnable.{runnable, show_all, outputs_are_values}
use Rattle.runner.proofs.run_steps.Goals as goal

pub returns-in_err-squarings-clause-result_value : goal.returns-in_err-squarings-clause-result_value
unfolding run_answer
returns-in_err-squarings-clause-result_value g c =
    let told : c.from_residual.result ≡ Err c.in_err-squarings.field-0.0 = search rules in
    rw told (answer_refused _ _ _ _ (found_refused _ _ _ _ c.in_err-squarings.ensures))

pub returns-in_err-squarings-clause-values_after : goal.returns-in_err-squarings-clause-values_after
unfolding run_values
returns-in_err-squarings-clause-values_after g c = kept _ _ _ _ _ (found_refused _ _ _ _ c.in_err-squarings.ensures)

pub returns-in_err-squarings-clause-figures_after : goal.returns-in_err-squarings-clause-figures_after
unfolding run_figures
returns-in_err-squarings-clause-figures_after g c = kept _ _ _ _ _ (found_refused _ _ _ _ c.in_err-squarings.ensures)

pub fill-requires : goal.fill-requires
fill-requires g c =
    let able = runnable _ _ _ _ _ _ _ (sym (found_fine _ _ _ c.in_ok-squarings.ensures)) in
    record {
      products =
          record {
            modulus = able.modulus;
            steps_sound = record { p_low = able.sizes.p_low; steps_fine = able.steps_fine; room = able.values_fit };
          };
      bases_are_p = able.bases_are_p;
    }

pub show-requires : goal.show-requires
show-requires g c =
    let able = runnable _ _ _ _ _ _ _ (sym (found_fine _ _ _ c.in_ok-squarings.ensures)) in
    record {
      figures_fit = able.figures_fit;
      outputs_within = λ i h. omega (arith, able.outputs_within i h, able.values_fit, c.fill.auto.values);
    }

pub counts_of-requires : goal.counts_of-requires
counts_of-requires g c =
    omega (arith, found_number _ _ _ c.in_ok-squarings.ensures, squarings_few (g.S.StepList.list c.args.steps.now), c.count.ensures)

pub returns-clause-result_value : goal.returns-clause-result_value
unfolding run_answer
returns-clause-result_value g c =
    let counts = c.counts_of.ensures ∙ counts_are (g.S.StepList.list c.args.steps.now) _ _ c.count.ensures (found_number _ _ _ c.in_ok-squarings.ensures) in
    ap (λ (l : List ℕ). done l) counts ∙ answer_done _ _ (found_fine _ _ _ c.in_ok-squarings.ensures)

pub returns-clause-values_after : goal.returns-clause-values_after
unfolding run_values
returns-clause-values_after g c = renewed _ _ _ _ (found_fine _ _ _ c.in_ok-squarings.ensures) c.fill.ensures

pub returns-clause-figures_after : goal.returns-clause-figures_after
unfolding run_figures
returns-clause-figures_after g c =
    let allowed = found_fine _ _ _ c.in_ok-squarings.ensures in
    renewed _ _ _ _ allowed (show_all _ _ _ _ _ _ c.fill.ensures (outputs_are_values _ _ _ _ _ _ _ (runnable _ _ _ _ _ _ _ (sym allowed))) c.show.ensures)
