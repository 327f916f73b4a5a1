-- The cells filled one by one stand before the rest of the slice.
use Rattle.std.proofs.Common.{rules}
use Rattle.methods.proofs.Filling.{front_filled}
use Rattle.straus_emit.proofs.Vectors.{mask_some}
use Rattle.straus_emit.proofs.fill_masks.Goals as goal

pub overflow_sub-cell : goal.overflow_sub-cell
overflow_sub-cell c = search mask_some

pub returns : goal.returns
returns c = search (rules, front_filled)
