-- Value 0 stored and the bases laid after it are one list over the front.
use Rattle.std.proofs.Common.{arith}
use Rattle.run.proofs.Opening.{start_all}
use Rattle.run.proofs.start.Goals as goal

pub returns : goal.returns
returns c = start_all _ _ _ _ (omega arith) c.lay.ensures
