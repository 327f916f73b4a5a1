-- After s turns the slice has the products of the first s steps, and all else as it was.
use Rattle.std.proofs.Common.{◌≡◌}
use Rattle.chain.proofs.Filling.{made_to}
use Rattle.residue.specs.Residue.{times_mod}
use Rattle.runner.proofs.multiply.Given as goal

abbrev pub invariant-loop-s : goal.invariant-loop-s
invariant-loop-s g l = l.cells ≡ made_to (times_mod l.m) l.p (g.S.StepList.list l.steps) l.s l.fn.cells
