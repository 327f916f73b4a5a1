-- The bases are filled into a local array, whose first p cells are the table's inputs.
use Rattle.std.proofs.Common.{rules}
use Rattle.methods.proofs.Filling.{filled_front}
use Rattle.straus_emit.proofs.emit.Goals as goal

pub make_chain-requires : goal.make_chain-requires
make_chain-requires c = search (rules, filled_front)
