-- Two words that are there are one number (`joined`).
use Rattle.bits.proofs.Take.{joined}
use Rattle.bits.proofs.eight.Goals as goal

pub returns : goal.returns
returns c = joined _ _ _ _ c.word-x.ensures c.word-y.ensures
