-- Each call asks what the one before it left, and the three together close the level.
use Rattle.closing.proofs.Closing.{clumps_asked, join_asked, outputs_closed, rest_asked}
use Rattle.closing.proofs.close_outputs.Goals as goal

pub transpose-rest-requires : goal.transpose-rest-requires
transpose-rest-requires c = clumps_asked _ _ _ _ _ _ c.requires

pub transpose-requires : goal.transpose-requires
transpose-requires c = rest_asked _ _ _ _ _ _ c.requires _ _ c.transpose-rest.ensures

pub join-requires : goal.join-requires
join-requires c = join_asked _ _ _ _ _ _ c.requires _ _ c.transpose-rest.ensures _ _ c.transpose.ensures

pub returns : goal.returns
returns c =
    outputs_closed _ _ _ _ _ _ c.requires _ _ c.transpose-rest.ensures _ _ c.transpose.ensures _ _ c.join.ensures
