-- What is found before the steps, of the rest of the chain, then of the figures: together run's rule.
use Rattle.std.proofs.Common.{◌≡◌, ◌∙◌, sym, refl, rules, Err}
use Rattle.chain.proofs.Rules.{stop}
use Rattle.chain.proofs.Squarings.{counted_refused, counted_done, found_refused, found_fine, found_number}
use Rattle.run.proofs.Parts.{run_told, started}
use Rattle.rest.proofs.Rest.{end_asked}
use Rattle.runner.proofs.judge.Goals as goal

pub judge_rest-requires : goal.judge_rest-requires
judge_rest-requires g c e = end_asked (started _ _ _ _ _ (sym (rw c.count.ensures at c.judge_start-begun.ensures) ∙ e)).shape

pub returns-in_err-squarings : goal.returns-in_err-squarings
returns-in_err-squarings g c =
    let begun = rw c.count.ensures at c.judge_start-begun.ensures in
    let rest = found_refused _ _ _ _ c.in_err-squarings.ensures in
    let told : c.from_residual.result ≡ Err c.in_err-squarings.field-0.0 = search rules in
    rw told
    (counted_refused _ _ _ _ (run_told _ (g.S.StepList.list c.args.steps.now) _ _ _ _ _ _ _ _ begun rest (stop _ _ _ _ refl)))

pub returns-in_err-judge_figures : goal.returns-in_err-judge_figures
returns-in_err-judge_figures g c =
    let begun = rw c.count.ensures at c.judge_start-begun.ensures in
    let rest = found_fine _ _ _ c.in_ok-squarings.ensures in
    let told : c.from_residual-in_err-judge_figures.result ≡ Err c.in_err-judge_figures.field-0.0 = search rules in
    rw told
    (counted_refused _ _ _ _ (run_told _ (g.S.StepList.list c.args.steps.now) _ _ _ _ _ _ _ _ begun rest c.in_err-judge_figures.ensures))

pub returns : goal.returns
returns g c =
    let begun = rw c.count.ensures at c.judge_start-begun.ensures in
    let rest = found_fine _ _ _ c.in_ok-squarings.ensures in
    counted_done _ _ _
    (run_told _ (g.S.StepList.list c.args.steps.now) _ _ _ _ _ _ _ _ begun rest c.in_ok-judge_figures.ensures)
    (found_number _ _ _ c.in_ok-squarings.ensures)
