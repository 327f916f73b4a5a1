-- The first place, and then the rows.
use Rattle.keys.proofs.Clumps.{clumps_laid, first_asked}
use Rattle.keys.proofs.lay_clumps.Goals as goal

pub lay_rows-requires : goal.lay_rows-requires
lay_rows-requires c = first_asked _ _ _ _ _ c.requires

pub returns : goal.returns
returns c = clumps_laid _ _ _ _ _ c.requires _ _ c.lay_rows.ensures
