-- Each call asks what the one before it left, and the three together open the level.
use Rattle.opening.proofs.Opening.{first_asked, level_asked, outputs_opened, outs_inside, second_asked}
use Rattle.opening.proofs.open_outputs.Goals as goal

pub bounds-s-t : goal.bounds-s-t
bounds-s-t c = (outs_inside _ _ _ _ c.requires).0

pub overflow_sub-members : goal.overflow_sub-members
overflow_sub-members c = (outs_inside _ _ _ _ c.requires).1

pub transpose-requires : goal.transpose-requires
transpose-requires c = first_asked _ _ _ _ c.requires

pub cut_level-c-requires : goal.cut_level-c-requires
cut_level-c-requires c = level_asked _ _ _ _ c.requires _ _ c.transpose.ensures

pub transpose-made-requires : goal.transpose-made-requires
transpose-made-requires c = second_asked _ _ _ _ c.requires _ _ c.transpose.ensures _ _ c.cut_level-c.ensures

pub returns : goal.returns
returns c =
    outputs_opened _ _ _ _ c.requires _ _ c.transpose.ensures _ _ c.cut_level-c.ensures _ _ c.transpose-made.ensures
