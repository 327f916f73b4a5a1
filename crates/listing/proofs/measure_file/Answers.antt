-- The length, what reading finds and what the columns' sums find, in this order, are the listing's rule.
use Rattle.std.proofs.Common.{◌≡◌, sym, refl, arith, rules, Err}
use Rattle.std.proofs.lemmas.List.{length-take-le}
use Rattle.layout.specs.Layout.{edition1}
use Rattle.reading.proofs.Told.{read_counts}
use Rattle.reading.proofs.Good.{read_refused}
use Rattle.listing.proofs.Judged.{listing_refused, too_long, unread, read_file, sound, outputs_few, measured, listing_done}
use Rattle.listing.proofs.measure_file.Goals as goal

pub returns-then-bytes-gt-MOST_BYTES : goal.returns-then-bytes-gt-MOST_BYTES
returns-then-bytes-gt-MOST_BYTES c =
    rw c.into.ensures (listing_refused _ _ 6 0 (too_long _ c.if-bytes-gt-MOST_BYTES.true))

pub returns-in_err-read : goal.returns-in_err-read
returns-in_err-read c =
    let a = c.args in
    let told : c.from_residual.result ≡ Err c.in_err-read.field-0.0 = search rules in
    rw told
    (listing_refused _ _ _ _
    (unread _ c.if-bytes-gt-MOST_BYTES.false _ _
    (read_refused edition1 a.bytes.now a.steps.now a.outputs.now (omega (arith, c.requires.steps_whole)) (omega (arith, c.requires.outputs_whole)) _ _
    c.in_err-read.ensures.result_value)))

pub overflow_mul-read : goal.overflow_mul-read
overflow_mul-read c =
    let e = c.in_ok-read.ensures in
    let t = read_file _ _ _ _ _ c.requires _ e.result_value _ _ e.steps_after e.outputs_after in
    omega (arith, t.taken.few)

pub slice_bounds-measure-end : goal.slice_bounds-measure-end
slice_bounds-measure-end c =
    let e = c.in_ok-read.ensures in
    let t = read_file _ _ _ _ _ c.requires _ e.result_value _ _ e.steps_after e.outputs_after in
    t.taken.steps_room

pub slice_bounds-measure-end-2 : goal.slice_bounds-measure-end-2
slice_bounds-measure-end-2 c =
    let e = c.in_ok-read.ensures in
    let t = read_file _ _ _ _ _ c.requires _ e.result_value _ _ e.steps_after e.outputs_after in
    sym (length-take-le _ _ t.taken.steps_room)

pub slice_bounds-measure-end-3 : goal.slice_bounds-measure-end-3
slice_bounds-measure-end-3 c =
    let e = c.in_ok-read.ensures in
    let t = read_file _ _ _ _ _ c.requires _ e.result_value _ _ e.steps_after e.outputs_after in
    t.taken.outputs_room

pub slice_bounds-measure-end-4 : goal.slice_bounds-measure-end-4
slice_bounds-measure-end-4 c =
    let e = c.in_ok-read.ensures in
    let t = read_file _ _ _ _ _ c.requires _ e.result_value _ _ e.steps_after e.outputs_after in
    sym (length-take-le _ _ t.taken.outputs_room)

pub measure-requires : goal.measure-requires
measure-requires c =
    let e = c.in_ok-read.ensures in
    let t = read_file _ _ _ _ _ c.requires _ e.result_value _ _ e.steps_after e.outputs_after in
    record {
      chain_sound = sound _ _ _ _ _ _ t _ c.requires.scratch_whole;
      outputs_few = outputs_few _ _ _ _ _ _ t;
      table_whole = c.requires.table_whole;
    }

pub returns-in_err-measure : goal.returns-in_err-measure
returns-in_err-measure c =
    let e = c.in_ok-read.ensures in
    let t = read_file _ _ _ _ _ c.requires _ e.result_value _ _ e.steps_after e.outputs_after in
    let told : c.from_residual-in_err-measure.result ≡ Err c.in_err-measure.field-0.0 = search rules in
    rw told (listing_refused _ _ _ _ (measured _ _ _ _ _ _ t c.if-bytes-gt-MOST_BYTES.false _ c.in_err-measure.ensures.told_is))

pub returns : goal.returns
returns c =
    let a = c.args in
    let e = c.in_ok-read.ensures in
    let t = read_file _ _ _ _ _ c.requires _ e.result_value _ _ e.steps_after e.outputs_after in
    let counts = read_counts edition1 a.bytes.now a.steps.now a.outputs.now _ _ _ e.result_value in
    listing_done _ _ _ _ _ _ t c.if-bytes-gt-MOST_BYTES.false _ _ counts c.in_ok-measure.ensures.told_is (c.in_ok-measure.ensures.holds refl)
