-- The sums after a column's start are its exponents.
use Rattle.verify.proofs.Beginning.{start_summed}
use Rattle.checker.proofs.column.Goals as goal

pub returns : goal.returns
returns g c = start_summed _ _ _ c.requires.column (g.S.StepList.list c.args.steps.now) _ _ _ c.start.ensures c.sum.ensures
