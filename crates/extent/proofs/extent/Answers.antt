-- Edition 1 is sound, and sizes that pass are sizes that it holds; so the extent found is that of a file.
use Rattle.std.proofs.Common.{◌≡◌, sym, rules, Err}
use Rattle.chain.proofs.Rules.{answer_refused, answer_done}
use Rattle.layout.specs.Layout.{edition1}
use Rattle.layout.specs.File.{extent_answer}
use Rattle.layout.proofs.Editions.{edition1_sound}
use Rattle.layout.proofs.Held.{shape_sized}
use Rattle.extent.proofs.extent.Goals as goal

pub extent_of-extent-requires : goal.extent_of-extent-requires
extent_of-extent-requires c =
    let passed = rw c.first_edition-layout.ensures at c.in_ok-judge_shape.ensures in
    rw c.first_edition-layout.ensures (record { sound = edition1_sound; sized = shape_sized edition1 _ _ _ (sym passed) })

pub returns-in_err-judge_shape : goal.returns-in_err-judge_shape
unfolding extent_answer
returns-in_err-judge_shape c =
    let told : c.from_residual.result ≡ Err c.in_err-judge_shape.field-0.0 = search rules in
    let stopped = rw c.first_edition-layout.ensures at c.in_err-judge_shape.ensures in
    rw told (answer_refused _ _ _ _ stopped)

pub returns : goal.returns
unfolding extent_answer
returns c =
    let passed = rw c.first_edition-layout.ensures at c.in_ok-judge_shape.ensures in
    let found = rw c.first_edition-layout.ensures at c.extent_of-extent.ensures in
    rw found (answer_done _ _ passed)
