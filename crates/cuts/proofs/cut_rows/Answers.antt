-- The first places are set, and the rows are cut.
use Rattle.cuts.proofs.Cutting.{places-set, rows_done}
use Rattle.cuts.proofs.cut_rows.Goals as goal

pub cut_each-requires : goal.cut_each-requires
cut_each-requires c = places-set _ _ _ _ _ _ c.requires

pub returns : goal.returns
returns c = rows_done _ _ _ _ _ _ c.requires _ _ c.cut_each.ensures
