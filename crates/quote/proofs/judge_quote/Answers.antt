-- Each return is a line of the rule: the sheet's refusal, the method's, or none, and then the columns are measured.
use Rattle.std.proofs.Common.{◌≡◌, ◌∙◌, sym, arith, rules, Err}
use Rattle.chain.proofs.Rules.{stop, pass, then_fine, not_fine, answer_refused}
use Rattle.chain.proofs.Sizes.{sizes_fit}
use Rattle.sheet.specs.Sheet.{sheet_rule}
use Rattle.quote.specs.ByMethod.{count_rule, ceiling_answer}
use Rattle.quote.proofs.Answers.{counted}
use Rattle.quote.proofs.Fits.{in_range}
use Rattle.quote.proofs.judge_quote.Goals as goal

pub returns-in_err-judge_sheet : goal.returns-in_err-judge_sheet
unfolding count_rule ceiling_answer
returns-in_err-judge_sheet c =
    let told : c.from_residual.result ≡ Err c.in_err-judge_sheet.field-0.0 = search rules in
    let stopped = stop _ _ _ _ c.in_err-judge_sheet.ensures in
    record { result_value = rw told (answer_refused _ _ _ _ stopped); measured_for = λ e. absurd (not_fine (stopped ∙ e)) }

pub judge_method-requires : goal.judge_method-requires
unfolding sheet_rule
judge_method-requires c = (sizes_fit _ _ (then_fine _ _ (sym c.in_ok-judge_sheet.ensures)).0).p_low

pub returns-in_err-judge_method : goal.returns-in_err-judge_method
unfolding count_rule ceiling_answer
returns-in_err-judge_method c =
    let told : c.from_residual-in_err-judge_method.result ≡ Err c.in_err-judge_method.field-0.0 = search rules in
    let stopped = pass _ _ _ c.in_ok-judge_sheet.ensures c.in_err-judge_method.ensures in
    record { result_value = rw told (answer_refused _ _ _ _ stopped); measured_for = λ e. absurd (not_fine (stopped ∙ e)) }

pub measure-requires : goal.measure-requires
unfolding count_rule
measure-requires c =
    let r = in_range _ _ _ c.args.method c.args.k (sym (pass _ _ _ c.in_ok-judge_sheet.ensures c.in_ok-judge_method.ensures)) in
    (omega (arith, r.sizes.p_low), r.amounts_are)

pub quote-requires : goal.quote-requires
unfolding count_rule
quote-requires c =
    record { passed = sym (pass _ _ _ c.in_ok-judge_sheet.ensures c.in_ok-judge_method.ensures); measured = c.measure.ensures }

pub returns-clause-result_value : goal.returns-clause-result_value
unfolding count_rule
returns-clause-result_value c =
    counted _ _ _ c.args.method c.args.k _ (pass _ _ _ c.in_ok-judge_sheet.ensures c.in_ok-judge_method.ensures) c.quote.ensures
