-- Each return is one law of `WriteAnswers`: refused by the shape, refused by the rest, or written; the extent that was measured in between is the file's.
use Rattle.std.proofs.Common.{◌≡◌, ◌∙◌, ap, arith, rules, Err}
use Rattle.chain.specs.Written.{over}
use Rattle.chain.specs.Chain.{pairs}
use Rattle.layout.specs.declared.Extent.{Extent}
use Rattle.layout.specs.File.{file_of}
use Rattle.writing.proofs.WriteAnswers.{shape_refused, sized, rest_refused, to_write, all_written}
use Rattle.writing.proofs.write_as.Goals as goal

pub returns-in_err-judge_shape : goal.returns-in_err-judge_shape
returns-in_err-judge_shape c =
    let a = c.args in
    let told : c.from_residual.result ≡ Err c.in_err-judge_shape.field-0.0 = search rules in
    rw told (shape_refused a.layout a.p a.steps.now a.outputs.now a.bytes.now _ _ c.in_err-judge_shape.ensures)

pub extent_of-s-requires : goal.extent_of-s-requires
extent_of-s-requires c =
    let a = c.args in
    record { sound = c.requires; sized = sized a.layout a.p a.steps.now a.outputs.now a.bytes.now c.in_ok-judge_shape.ensures }

pub judge_rest-requires : goal.judge_rest-requires
judge_rest-requires c =
    let a = c.args in
    let sizes = sized a.layout a.p a.steps.now a.outputs.now a.bytes.now c.in_ok-judge_shape.ensures in
    omega (arith, sizes.p_low, sizes.n_low, c.requires.narrow)

pub returns-in_err-judge_rest : goal.returns-in_err-judge_rest
returns-in_err-judge_rest c =
    let a = c.args in
    let told : c.from_residual-in_err-judge_rest.result ≡ Err c.in_err-judge_rest.field-0.0 = search rules in
    rw told
    (rest_refused a.layout a.p a.steps.now a.outputs.now a.bytes.now c.in_ok-judge_shape.ensures _ (ap (λ (x : Extent). x.bytes) c.extent_of-s.ensures) _ _
    c.in_err-judge_rest.ensures)

pub put_chain-requires : goal.put_chain-requires
put_chain-requires c =
    let a = c.args in
    to_write a.layout a.p a.steps.now a.outputs.now a.bytes.now c.in_ok-judge_shape.ensures _ (ap (λ (x : Extent). x.bytes) c.extent_of-s.ensures)
    c.in_ok-judge_rest.ensures c.requires _ c.extent_of-s.ensures

pub returns : goal.returns
returns c =
    let a = c.args in
    all_written a.layout a.p a.steps.now a.outputs.now a.bytes.now c.in_ok-judge_shape.ensures _ (ap (λ (x : Extent). x.bytes) c.extent_of-s.ensures)
    c.in_ok-judge_rest.ensures _
    (c.put_chain.ensures ∙ ap (λ (y : Extent). over (file_of a.layout y.p (pairs a.steps.now) a.outputs.now) a.bytes.now) c.extent_of-s.ensures)
