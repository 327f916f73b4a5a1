-- Eight bytes that cover both fields are shifted and cut to each (`two_taken`).
use Rattle.bits.proofs.Take.{two_taken}
use Rattle.bits.proofs.Cursor.take_two.Goals as goal

pub returns : goal.returns
returns c = two_taken _ _ _ _ _ c.requires c.min-i.ensures c.eight.ensures
