-- Each return is a line of the rule: what was refused before the steps were counted, the length's refusal, or none; the columns were measured by then.
use Rattle.std.proofs.Common.{◌≡◌, sym, rules, Err}
use Rattle.chain.specs.Inner.{counted_by}
use Rattle.chain.proofs.Squarings.{counted_done}
use Rattle.quote.proofs.Answers.{stopped}
use Rattle.compile.proofs.Answers.{quote_refused, quote_passed, quote_counted, length-judged}
use Rattle.compile.proofs.judge_accepted.Goals as goal

pub returns-in_err-quoted : goal.returns-in_err-quoted
unfolding counted_by
returns-in_err-quoted c =
    let told : c.from_residual.result ≡ Err c.in_err-quoted.field-0.0 = search rules in
    let stops = stopped _ _ _ _ (quote_refused _ _ _ _ _ _ _ c.in_err-quoted.ensures.result_value) in
    record { result_value = rw told stops.0; measured_for = stops.1 }

pub returns-in_err-judge_length : goal.returns-in_err-judge_length
unfolding counted_by
returns-in_err-judge_length c =
    let told : c.from_residual-in_err-judge_length.result ≡ Err c.in_err-judge_length.field-0.0 = search rules in
    let stops = stopped _ _ _ _ (length-judged _ _ _ _ _ _ _ c.in_ok-quoted.ensures.result_value _ c.in_err-judge_length.ensures) in
    record { result_value = rw told stops.0; measured_for = stops.1 }

pub returns : goal.returns
returns c =
    let quoted = c.in_ok-quoted.ensures.result_value in
    record {
      result_value =
          counted_done _ _ _ (length-judged _ _ _ _ _ _ _ quoted _ c.in_ok-judge_length.ensures) (quote_counted _ _ _ _ _ _ _ quoted);
      measured_for = λ e. c.in_ok-quoted.ensures.measured_for (sym (quote_passed _ _ _ _ _ _ _ quoted));
    }
