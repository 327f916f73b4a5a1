-- A turn puts the line of its payslip after those before it.
use Rattle.std.proofs.Common.{arith}
use Rattle.decimal.proofs.Putting.{put_none}
use Rattle.listing.specs.Inner.{amount_in}
use Rattle.listing.proofs.Lines.{put_next}
use Rattle.listing.proofs.put_payslips.Goals as goal

pub loop-i-init : goal.loop-i-init
loop-i-init c = (omega arith, put_none _ _)

pub loop-i-preserved : goal.loop-i-preserved
loop-i-preserved c = (
  omega (arith, c.put_payslip-end.ensures.short, c.loop-i.invariant.0),
  put_next _ c.args.p c.loop-i.i (amount_in c.args.table.now) _ _ _ _ _ (omega (arith, c.requires.room)) c.loop-i.invariant.1 c.put_payslip-end.ensures.put,
)
