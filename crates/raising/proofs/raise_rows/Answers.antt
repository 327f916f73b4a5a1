-- The first place, and then the rows.
use Rattle.raising.proofs.Joining.{first_asked, rows_raised}
use Rattle.raising.proofs.raise_rows.Goals as goal

pub raise_each-requires : goal.raise_each-requires
raise_each-requires c = first_asked _ _ _ _ _ _ c.requires

pub returns : goal.returns
returns c = rows_raised _ _ _ _ _ _ c.requires _ _ c.raise_each.ensures
