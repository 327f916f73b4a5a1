-- A blank, then the digits.
use Rattle.std.proofs.Common.{arith}
use Rattle.listing.proofs.Lines.{put_blank}
use Rattle.listing.proofs.put_field.Goals as goal

pub returns : goal.returns
returns c = put_blank _ _ _ _ _ (omega (arith, c.requires)) c.put_decimal.ensures
