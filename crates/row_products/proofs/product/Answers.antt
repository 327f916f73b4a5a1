-- One factor a turn, whose value stands where it stood.
use Rattle.row_products.proofs.Multiplying.{multiplied_none, multiplied_on, multiplied_room, multiplied_there}
use Rattle.row_products.proofs.product.Goals as goal

pub loop-i-init : goal.loop-i-init
loop-i-init c = multiplied_none _ _ _ c.args.m.value _ _ _ c.requires

pub bounds-s-values : goal.bounds-s-values
bounds-s-values c =
    multiplied_there _ _ _ c.args.m.value _ _ _ c.requires _ c.loop-i.auto.i _ _ _ c.loop-i.invariant c.loop-i-test.true

pub times-m-requires : goal.times-m-requires
times-m-requires c =
    multiplied_room _ _ _ c.args.m.value _ _ _ c.requires _ c.loop-i.auto.i _ _ _ c.loop-i.invariant c.loop-i-test.true

pub loop-i-preserved : goal.loop-i-preserved
loop-i-preserved c =
    multiplied_on _ _ _ c.args.m.value _ _ _ c.requires _ c.loop-i.auto.i _ _ _ c.loop-i.invariant c.loop-i-test.true _ _ _ c.times-m.ensures
