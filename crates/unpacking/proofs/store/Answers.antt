-- A turn lays one amount more, that of the field at hand.
use Rattle.std.proofs.Common.{◌∙◌, sym, arith}
use Rattle.chain.proofs.Laying.{lay_none, front_more, front_all}
use Rattle.packed.proofs.Fields.{length_amounts, amount_is}
use Rattle.unpacking.proofs.store.Goals as goal

pub loop-i-init : goal.loop-i-init
loop-i-init c = lay_none _ _ _

pub loop-i-preserved : goal.loop-i-preserved
loop-i-preserved c =
    let long = length_amounts c.args.m c.args.bytes.now in
    front_more _ _ _ _ _ (omega (arith, long, c.loop-i-test.true)) (omega (arith, long, c.requires.room))
    (c.amount_at.ensures ∙ sym (amount_is _ _ _ c.loop-i-test.true)) c.loop-i.invariant

pub returns : goal.returns
returns c = front_all _ _ _ _ (omega (arith, length_amounts c.args.m c.args.bytes.now, c.loop-i-test.false)) c.loop-i.invariant
