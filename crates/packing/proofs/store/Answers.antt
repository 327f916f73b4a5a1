-- A turn stores one field more.
use Rattle.std.proofs.Common.{rules, arith}
use Rattle.packing.proofs.Stored.{store_none, store_more, store_all}
use Rattle.packing.proofs.store.Goals as goal

pub loop-i-init : goal.loop-i-init
loop-i-init c = search store_none

pub put_field-requires : goal.put_field-requires
put_field-requires c =
    record {
      amount_low = c.requires.amounts_low c.loop-i.i c.loop-i-test.true;
      room = omega (arith, c.requires.room, c.loop-i-test.true, c.loop-i.invariant.long);
    }

pub loop-i-preserved : goal.loop-i-preserved
loop-i-preserved c = search (rules, store_more)

pub returns : goal.returns
returns c = search (rules, store_all)
