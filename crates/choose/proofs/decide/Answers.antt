-- What is lent is judged first; enough of it stays enough, since no slice changes its length, so both files are judged, and `choice_made` puts the verdicts together.
use Rattle.std.proofs.Common.{◌≡◌, ◌∙◌, arith, rules, Err}
use Rattle.choose.proofs.Choices.{enough, choice_refused, choice_made}
use Rattle.choose.proofs.decide.Goals as goal

pub returns-in_err-judge_lent : goal.returns-in_err-judge_lent
returns-in_err-judge_lent c =
    let told : c.from_residual.result ≡ Err c.in_err-judge_lent.field-0.0 = search rules in
    rw told (choice_refused _ _ _ _ _ _ _ _ _ _ c.in_err-judge_lent.ensures)

pub judge_file-x-requires : goal.judge_file-x-requires
judge_file-x-requires c = enough _ _ _ _ _ _ c.in_ok-judge_lent.ensures

pub judge_file-y-requires : goal.judge_file-y-requires
judge_file-y-requires c =
    let e = enough _ _ _ _ _ _ c.in_ok-judge_lent.ensures in
    let k = c.judge_file-x.auto in
    record {
      pairs_enough = omega (arith, e.pairs_enough, k.steps);
      outputs_enough = omega (arith, e.outputs_enough, k.outputs);
      numbers_enough = omega (arith, e.numbers_enough, k.numbers);
    }

pub returns : goal.returns
returns c =
    c.better.ensures
    ∙ choice_made _ _ _ _ _ _ _ _ c.judge_file-x.result c.judge_file-y.result c.in_ok-judge_lent.ensures c.judge_file-x.ensures c.judge_file-y.ensures
