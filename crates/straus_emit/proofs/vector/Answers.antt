-- What is added so far is no more than all that is added.
use Rattle.std.proofs.Common.{◌<◌, rules}
use Rattle.std.proofs.lemmas.List.{get_or-take}
use borrow.Author.Rules.{Fits-under}
use Rattle.straus_emit.proofs.Vectors.{next_low}
use Rattle.straus_emit.proofs.vector.Goals as goal

pub overflow_add-v : goal.overflow_add-v
overflow_add-v c =
    let less : c.loop-c.c < c.args.p = search rules in
    Fits-under _ _ 4294967296 (rw get_or-take (search next_low)) tt
