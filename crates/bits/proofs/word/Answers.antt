-- Four bytes that are there are one number (`gathered`).
use Rattle.bits.proofs.Take.{gathered}
use Rattle.bits.proofs.word.Goals as goal

pub returns : goal.returns
returns c = gathered _ _ _ _ _ _ c.byte-a.ensures c.byte-b.ensures c.byte-c.ensures c.byte-d.ensures
