-- The header's judge refuses, or hands on the extent by which the body is read; `file_read_lem` puts the two rules together.
use Rattle.std.proofs.Common.{◌≡◌, rules, Err}
use Rattle.reading.proofs.ReadAnswers.{found_proper, file_refused, file_read_lem}
use Rattle.reading.proofs.read_as.Goals as goal

pub returns-in_err-x : goal.returns-in_err-x
returns-in_err-x c =
    let a = c.args in
    let told : c.from_residual.result ≡ Err c.in_err-x.field-0.0 = search rules in
    rw told (file_refused a.layout a.bytes.now a.steps.now a.outputs.now _ _ c.in_err-x.ensures)

pub read_body-requires : goal.read_body-requires
read_body-requires c = found_proper c.args.layout c.args.bytes.now c.requires _ c.in_ok-x.ensures

pub returns : goal.returns
returns c =
    let a = c.args in
    file_read_lem a.layout a.bytes.now a.steps.now a.outputs.now _ c.in_ok-x.ensures _ _ _ c.read_body.ensures
