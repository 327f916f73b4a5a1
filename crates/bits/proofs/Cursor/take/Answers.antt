-- The word gathered at the cursor's byte is shifted and cut to the field (`taken`).
use Rattle.bits.proofs.Take.{taken}
use Rattle.bits.proofs.Cursor.take.Goals as goal

pub returns : goal.returns
returns c = taken _ _ _ _ c.requires c.gather-all.ensures
