-- Write refuses, or the bytes that it counted are lent to read; each return is one law of `Dispatching`.
use Rattle.std.proofs.Common.{◌≡◌, sym, rules, Err}
use lib.Seq.{length-take-le}
use Rattle.chain.specs.Chain.{pairs}
use Rattle.writing.proofs.Told.{write_room}
use Rattle.dispatch.proofs.Dispatching.{not_written, then_read}
use Rattle.dispatch.proofs.dispatch.Goals as goal

pub returns-in_err-count : goal.returns-in_err-count
returns-in_err-count c =
    let a = c.args in
    let told : c.from_residual.result ≡ Err c.in_err-count.field-0.0 = search rules in
    let wrote = c.in_err-count.ensures in
    rw told
    (not_written a.p (pairs a.steps.now) a.outputs.now a.bytes.now a.received.now a.results.now _ wrote.bytes_after _ _ wrote.result_value)

pub slice_bounds-read-end : goal.slice_bounds-read-end
slice_bounds-read-end c = write_room _ _ _ _ _ _ c.in_ok-count.ensures.result_value _ c.in_ok-count.ensures.bytes_after

pub slice_bounds-read-end-2 : goal.slice_bounds-read-end-2
slice_bounds-read-end-2 c =
    sym (length-take-le _ _ (write_room _ _ _ _ _ _ c.in_ok-count.ensures.result_value _ c.in_ok-count.ensures.bytes_after))

pub returns : goal.returns
returns c =
    let a = c.args in
    let wrote = c.in_ok-count.ensures in
    let read = c.read.ensures in
    then_read a.p (pairs a.steps.now) a.outputs.now a.bytes.now a.received.now a.results.now _ wrote.bytes_after _ wrote.result_value _ _ _
    read.result_value read.steps_after read.outputs_after
