-- A flat list has half as many steps as numbers.
use Rattle.std.proofs.Common.{sym}
use Rattle.chain.proofs.Pairs.{length_pairs}
use Rattle.chain.proofs.FlatStepList.count.Goals as goal

pub returns : goal.returns
returns c = sym (length_pairs _)
