-- The body's judge decides; where it passes, the lists read by the extent are the chain's, over the front of both slices (`body_done`).
use Rattle.std.proofs.Common.{◌≡◌, ◌∙◌, sym, arith, rules, Err}
use Rattle.chain.proofs.Squarings.{squarings_few, counts_are, found_refused, found_fine, found_number}
use Rattle.reading.specs.Inner.{file_steps}
use Rattle.reading.proofs.ReadAnswers.{steps_count, body_refused, lists_room, body_done}
use Rattle.reading.proofs.read_body.Goals as goal

pub returns-in_err-squarings : goal.returns-in_err-squarings
returns-in_err-squarings c =
    let a = c.args in
    let told : c.from_residual.result ≡ Err c.in_err-squarings.field-0.0 = search rules in
    rw told (body_refused a.bytes.now a.x c.requires a.steps.now a.outputs.now _ _ (found_refused _ _ _ _ c.in_err-squarings.ensures))

pub take_lists-requires : goal.take_lists-requires
take_lists-requires c =
    let a = c.args in
    lists_room a.bytes.now a.x c.requires a.steps.now a.outputs.now (found_fine _ _ _ c.in_ok-squarings.ensures)

pub counts_of-requires : goal.counts_of-requires
counts_of-requires c =
    let a = c.args in
    omega (arith, found_number _ _ _ c.in_ok-squarings.ensures, squarings_few (file_steps a.bytes.now a.x), steps_count a.bytes.now a.x)

pub returns : goal.returns
returns c =
    let a = c.args in
    let counted = c.in_ok-squarings.ensures in
    body_done a.bytes.now a.x c.requires a.steps.now a.outputs.now (found_fine _ _ _ counted) _ _ _
    (c.counts_of.ensures ∙ counts_are (file_steps a.bytes.now a.x) _ _ (sym (steps_count a.bytes.now a.x)) (found_number _ _ _ counted))
    c.take_lists.ensures
