-- Shifts put the byte's head and the field side by side in one word, and `put_stored` says that its bytes are the buffer with the field added.
use Rattle.std.proofs.Common.{rules}
use Rattle.bits.proofs.Put.{put_stored}
use Rattle.bits.proofs.Cursor.put.Goals as goal

pub returns : goal.returns
returns c = put_stored _ _ _ _ _ (λ k. search rules) c.requires c.from.ensures _ c.scatter_wide.ensures
