-- Each turn puts two numbers as one field; a last one is put by itself.
use Rattle.std.proofs.Common.{arith}
use Rattle.fields.proofs.Putting.{one_on, two_room, two_on, put_end}
use Rattle.fields.proofs.put_fields.Goals as goal

pub put-c-requires : goal.put-c-requires
put-c-requires c = two_room _ _ _ _ _ _ _ _ c.requires.there c.loop-j.invariant _ _ c.loop-j-test.true c.from.ensures c.from-in-loop-j.ensures

pub loop-j-preserved : goal.loop-j-preserved
loop-j-preserved c =
    two_on _ _ _ _ _ _ _ _ c.requires.there c.loop-j.invariant _ _ c.loop-j-test.true c.from.ensures c.from-in-loop-j.ensures _ _ c.put-c.ensures c.put-c.auto.buf

pub returns-then-j-count : goal.returns-then-j-count
returns-then-j-count c =
    let last =
    one_on _ _ _ _ _ _ _ _ c.requires.there c.loop-j.invariant _ c.if-j-count.true c.from-then-j-count.ensures _ _ c.put-c-then-j-count.ensures c.put-c-then-j-count.auto.buf in
    put_end _ _ _ _ _ _ _ _ last (omega (arith, c.loop-j-test.false))

pub returns-else-j-count : goal.returns-else-j-count
returns-else-j-count c = put_end _ _ _ _ _ _ _ _ c.loop-j.invariant c.if-j-count.false
