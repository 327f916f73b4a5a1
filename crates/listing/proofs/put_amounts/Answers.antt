-- The amount at hand is of 32 bits, so its field has room; a turn puts it after those before it.
use Rattle.std.proofs.Common.{◌+◌, ◌*◌, get_or, arith}
use Rattle.decimal.proofs.Decimal.{decimal_short}
use Rattle.decimal.proofs.Putting.{put_none}
use Rattle.listing.specs.Inner.{amount_in}
use Rattle.listing.proofs.Lines.{put_amount}
use Rattle.listing.proofs.put_amounts.Goals as goal

pub loop-c-init : goal.loop-c-init
loop-c-init c = (omega arith, put_none _ _)

pub put_field-end-requires : goal.put_field-end-requires
put_field-end-requires c =
    let low = c.type_inv.table (64 * c.loop-c.c + c.args.i) in
    let short = decimal_short 9 (get_or c.args.table.now (64 * c.loop-c.c + c.args.i) 0) (omega (arith, low.fits)) in
    omega (arith, short, c.loop-c.auto.text, c.loop-c.invariant.0, c.loop-c-test.true, c.requires.room)

pub loop-c-preserved : goal.loop-c-preserved
loop-c-preserved c =
    let low = c.type_inv.table (64 * c.loop-c.c + c.args.i) in
    let short = decimal_short 9 (get_or c.args.table.now (64 * c.loop-c.c + c.args.i) 0) (omega (arith, low.fits)) in (
      omega (arith, short, c.put_field-end.ensures.place, c.loop-c.invariant.0),
      put_amount _ _ (amount_in c.args.table.now c.args.i) _ _ _ _ _ (omega (arith, c.requires.room)) c.loop-c.invariant.1 c.put_field-end.ensures,
    )
