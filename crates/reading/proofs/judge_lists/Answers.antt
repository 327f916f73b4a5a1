-- The steps' verdict, then the outputs': a refusal of the steps stops, and else the outputs decide; the squarings are those that the steps' judge counted.
use Rattle.std.proofs.Common.{◌≡◌, rules, Err}
use Rattle.chain.proofs.Rules.{stop, pass}
use Rattle.chain.proofs.Squarings.{counted_refused, counted_done, found_refused, found_fine, found_number}
use Rattle.reading.proofs.ReadAnswers.{chain_is}
use Rattle.reading.proofs.judge_lists.Goals as goal

pub returns-in_err-squarings : goal.returns-in_err-squarings
returns-in_err-squarings c =
    let told : c.from_residual.result ≡ Err c.in_err-squarings.field-0.0 = search rules in
    rw told (counted_refused _ _ _ _ (chain_is _ c.args.x _ (stop _ _ _ _ (found_refused _ _ _ _ c.in_err-squarings.ensures))))

pub returns-in_err-judge_outputs : goal.returns-in_err-judge_outputs
returns-in_err-judge_outputs c =
    let told : c.from_residual-in_err-judge_outputs.result ≡ Err c.in_err-judge_outputs.field-0.0 = search rules in
    rw told
    (counted_refused _ _ _ _ (chain_is _ c.args.x _ (pass _ _ _ (found_fine _ _ _ c.in_ok-squarings.ensures) c.in_err-judge_outputs.ensures)))

pub returns : goal.returns
returns c =
    let counted = c.in_ok-squarings.ensures in
    counted_done _ _ _ (chain_is _ c.args.x _ (pass _ _ _ (found_fine _ _ _ counted) c.in_ok-judge_outputs.ensures)) (found_number _ _ _ counted)
