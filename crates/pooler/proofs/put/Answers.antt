-- The first list laid at the front and the second after it are one list over the front.
use Rattle.std.proofs.Common.{arith}
use Rattle.pooler.proofs.Laid.{both_laid}
use Rattle.pooler.proofs.put.Goals as goal

pub lay-requires : goal.lay-requires
lay-requires c = record { low = λ i h. omega (arith, c.type_inv.first i); room = omega (arith, c.requires.room) }

pub lay-requires-2 : goal.lay-requires-2
lay-requires-2 c = record { low = c.requires.low; room = omega (arith, c.requires.room, c.lay.auto.cells) }

pub returns : goal.returns
returns c = both_laid _ _ c.args.first.now c.args.second.now c.args.cells.now _ _ c.lay.ensures c.lay-2.ensures
