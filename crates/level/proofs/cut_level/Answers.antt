-- Each call asks what the one before it left, and the three together leave the level cut.
use Rattle.level.proofs.Cutting.{clumps_asked, level_cut, rank_asked}
use Rattle.level.proofs.cut_level.Goals as goal

pub rank-clumps-requires : goal.rank-clumps-requires
rank-clumps-requires c = rw c.key_count-size.ensures (rank_asked _ _ _ _ _ _ _ c.requires _ _ c.cut_rows-ends.ensures)

pub lay_clumps-end-requires : goal.lay_clumps-end-requires
lay_clumps-end-requires c =
    let size = c.key_count-size.ensures in
    rw size (clumps_asked _ _ _ _ _ _ _ c.requires _ _ c.cut_rows-ends.ensures _ _ (rw size at c.rank-clumps.ensures))

pub returns : goal.returns
returns c =
    let size = c.key_count-size.ensures in
    rw (← size) at
    (level_cut _ _ _ _ _ _ _ c.requires _ _ c.cut_rows-ends.ensures _ _ (rw size at c.rank-clumps.ensures) _ _
    (rw size at c.lay_clumps-end.ensures))
