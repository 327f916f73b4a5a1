-- The file is read, its sizes compared, and what was read is checked; every return is one law of `Files`, and the count is the header's n.
use Rattle.std.proofs.Common.{◌≡◌, sym, arith, rules, Err, inl, inr}
use Rattle.std.proofs.lemmas.List.{length-take-le}
use Rattle.layout.specs.Layout.{edition1}
use Rattle.reading.proofs.Good.{Good, read_refused}
use Rattle.choose.proofs.Files.{refusal_says, unread, read_file, other_sizes, held}
use Rattle.choose.proofs.judge_file.Goals as goal
use Rattle.choose.proofs.judge_file.Goals.{then-read-p-via-then-read-p, then-read-p-via-else-read-p+then-read-q}

pub returns-in_err-read : goal.returns-in_err-read
returns-in_err-read c =
    let a = c.args in
    let told : c.from_residual.result ≡ Err c.in_err-read.field-0.0 = search rules in
    rw told
    (refusal_says _ _ _ _ _
    (unread _ _ _ _ _ _ (read_refused edition1 a.bytes.now a.steps.now a.outputs.now c.requires.pairs_enough c.requires.outputs_enough _ _ c.in_err-read.ensures.result_value)))

pub returns-then-read-p : goal.returns-then-read-p
returns-then-read-p c =
    let e = c.in_ok-read.ensures in
    let t = read_file _ _ _ c.requires _ e.result_value _ _ e.steps_after e.outputs_after in
    rw c.into.ensures
    (refusal_says _ _ _ _ _
    (other_sizes _ _ _ c.args.amounts.now _ _ _ _ _ t
    (elim c.then-read-p.branch [
      | then-read-p-via-then-read-p w ↦ inl w.if-read-p.true
      | then-read-p-via-else-read-p+then-read-q w ↦ inr w.if-read-q.true
    ])))

-- what the file that was read tells of its slices
file : (c : goal.Else-read-q)
    → Good edition1 c.args.bytes.now c.read.new.steps c.read.new.outputs c.in_ok-read.read.p c.in_ok-read.read.q c.in_ok-read.read.counts.steps
file c =
    let e = c.in_ok-read.ensures in
    read_file _ _ _ c.requires _ e.result_value _ _ e.steps_after e.outputs_after

pub overflow_mul-n : goal.overflow_mul-n
overflow_mul-n c = omega (arith, (file c).taken.few)

pub slice_bounds-verify-end : goal.slice_bounds-verify-end
slice_bounds-verify-end c = (file c).taken.steps_room

pub slice_bounds-verify-end-2 : goal.slice_bounds-verify-end-2
slice_bounds-verify-end-2 c = sym (length-take-le _ _ (file c).taken.steps_room)

pub slice_bounds-verify-end-3 : goal.slice_bounds-verify-end-3
slice_bounds-verify-end-3 c =
    let e = c.if-read-q.false in
    omega (arith, (file c).taken.outputs_room)

pub slice_bounds-verify-end-4 : goal.slice_bounds-verify-end-4
slice_bounds-verify-end-4 c =
    let e = c.if-read-q.false in
    sym (length-take-le _ _ (omega (arith, (file c).taken.outputs_room)))

pub returns-in_err-verify : goal.returns-in_err-verify
returns-in_err-verify c =
    let e = c.in_ok-read.ensures in
    let t = read_file _ _ _ c.requires _ e.result_value _ _ e.steps_after e.outputs_after in
    let told : c.from_residual-in_err-verify.result ≡ Err c.in_err-verify.field-0.0 = search rules in
    rw told
    (refusal_says _ _ _ _ _
    (held _ _ _ _ _ _ _ _ _ t c.if-read-p.false c.if-read-q.false _ c.requires.numbers_enough _ c.in_err-verify.ensures.result_value))

pub returns : goal.returns
returns c =
    let e = c.in_ok-read.ensures in
    let t = read_file _ _ _ c.requires _ e.result_value _ _ e.steps_after e.outputs_after in
    record {
      verdict = held _ _ _ _ _ _ _ _ _ t c.if-read-p.false c.if-read-q.false _ c.requires.numbers_enough _ c.in_ok-verify.ensures.result_value;
      count = λ f. t.taken.long;
    }
