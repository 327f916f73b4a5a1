-- A turn lays one byte more.
use Rattle.std.proofs.Common.{refl, arith}
use Rattle.chain.proofs.Laying.{lay_none, front_more, front_all}
use Rattle.bits.proofs.lengthen.Goals as goal

pub loop-i-init : goal.loop-i-init
loop-i-init c = lay_none _ _ _

pub loop-i-preserved : goal.loop-i-preserved
loop-i-preserved c = front_more _ _ _ _ _ c.loop-i-test.true c.requires refl c.loop-i.invariant

pub returns : goal.returns
returns c = front_all _ _ _ _ (omega (arith, c.loop-i-test.false)) c.loop-i.invariant
