-- A turn lays one byte more.
use Rattle.std.proofs.Common.{refl, arith}
use Rattle.chain.proofs.Laying.{lay_none, lay_more, lay_all}
use Rattle.decimal.proofs.put_word.Goals as goal

pub loop-i-init : goal.loop-i-init
loop-i-init c = lay_none _ _ _

pub loop-i-preserved : goal.loop-i-preserved
loop-i-preserved c = lay_more _ _ _ _ _ _ c.loop-i-test.true c.requires refl c.loop-i.invariant

pub returns : goal.returns
returns c = record { place = refl; text = lay_all _ _ _ _ _ (omega (arith, c.loop-i-test.false)) c.loop-i.invariant }
