-- The first line and the payslips' lines are the chain's text.
use Rattle.listing.specs.Inner.{amount_in}
use Rattle.listing.proofs.Lines.{put_listing}
use Rattle.listing.proofs.put_chain.Goals as goal

pub returns : goal.returns
returns c = put_listing _ _ _ (amount_in c.args.table.now) _ _ _ _ _ c.put_sizes-at.ensures.put c.put_payslips.ensures
