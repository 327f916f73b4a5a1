-- One number a turn, from the heaviest on: one that what is left weighs as much as is laid.
use Rattle.keys.proofs.Laying.{members_all, members_on, members_pass, members_room}
use Rattle.keys.proofs.lay_weight.Goals as goal

pub bounds-s-e : goal.bounds-s-e
bounds-s-e c =
    members_room _ _ _ _ _ c.requires _ _ _ _ c.loop-i.invariant c.loop-i-test.true _ c.power-own.ensures c.if-own-w.true

pub loop-i-preserved-then-own-w : goal.loop-i-preserved-then-own-w
loop-i-preserved-then-own-w c =
    members_on _ _ _ _ _ c.requires _ _ _ _ c.loop-i.invariant c.loop-i-test.true _ c.power-own.ensures c.if-own-w.true

pub loop-i-preserved : goal.loop-i-preserved
loop-i-preserved c =
    members_pass _ _ _ _ _ c.requires _ _ _ _ c.loop-i.invariant c.loop-i-test.true _ c.power-own.ensures c.if-own-w.false

pub returns : goal.returns
returns c = members_all _ _ _ _ _ _ _ _ _ c.loop-i.invariant c.loop-i-test.false
