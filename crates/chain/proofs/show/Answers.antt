-- Once all figures stand, nothing is left to store.
use Rattle.std.proofs.Common.{rules}
use Rattle.chain.proofs.Picked.{showing}
use Rattle.chain.proofs.show.Goals as goal

pub returns : goal.returns
returns c = search (rules, showing)
