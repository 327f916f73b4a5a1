-- Each turn reads two fields; a last one is read by itself.
use Rattle.std.proofs.Common.{arith}
use Rattle.fields.proofs.Taking.{take_start, one_on, two_on, take-end}
use Rattle.fields.proofs.take_long.Goals as goal

pub loop-i-init : goal.loop-i-init
loop-i-init c = take_start _ _ _ _ _ c.requires.room

pub loop-i-preserved : goal.loop-i-preserved
loop-i-preserved c = two_on _ _ _ _ _ _ _ _ c.loop-i.invariant c.loop-i-test.true _ _ _ c.take_two-two.ensures

pub returns-then-i-count : goal.returns-then-i-count
returns-then-i-count c =
    let last = one_on _ _ _ _ _ _ _ _ c.loop-i.invariant c.if-i-count.true _ _ c.take-one.ensures in
    take-end _ _ _ _ _ _ _ _ (omega (arith, c.loop-i-test.false)) last

pub returns-else-i-count : goal.returns-else-i-count
returns-else-i-count c = take-end _ _ _ _ _ _ _ _ c.if-i-count.false c.loop-i.invariant
