-- Each return follows one more stored byte than the one before; the bytes stored so far are the first ones of the word (`stored_one` to `stored_four`).
use Rattle.std.proofs.Common.{arith}
use Rattle.octets.proofs.Spread.{stored_one, stored_two, stored_three, stored_four}
use Rattle.octets.proofs.scatter.Goals as goal

pub returns-then-count-lt2 : goal.returns-then-count-lt2
returns-then-count-lt2 c =
    let a = c.args in
    stored_one a.buf.now a.i a.count a.head a.x _ (omega arith) c.low_byte.ensures (omega arith)

pub returns-then-count-lt3 : goal.returns-then-count-lt3
returns-then-count-lt3 c =
    let a = c.args in
    stored_two a.buf.now a.i a.count a.head a.x _ (omega arith) c.low_byte.ensures _ c.low_byte-2.ensures (omega arith)

pub returns-then-count-lt4 : goal.returns-then-count-lt4
returns-then-count-lt4 c =
    let a = c.args in
    stored_three a.buf.now a.i a.count a.head a.x _ (omega arith) c.low_byte.ensures _ c.low_byte-2.ensures _ c.low_byte-3.ensures (omega arith)

pub returns : goal.returns
returns c =
    let a = c.args in
    stored_four a.buf.now a.i a.count a.head a.x _ (omega arith) c.low_byte.ensures _ c.low_byte-2.ensures _ c.low_byte-3.ensures _
    c.low_byte-4.ensures
    (omega arith)
