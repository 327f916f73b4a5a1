-- The numbers so far are laid, renumbered.
use Rattle.std.proofs.Common.{map}
use Rattle.chain.proofs.Laying.{LaidTo}
use Rattle.pool.specs.Pool.{renumbered}
use Rattle.pooler.proofs.lay.Given as goal

abbrev pub invariant-loop-i : goal.invariant-loop-i
invariant-loop-i l = LaidTo (map (renumbered l.to.p l.to.n) l.numbers) l.at l.fn.cells l.i l.cells
