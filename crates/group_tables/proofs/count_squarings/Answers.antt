-- One cell more is filled a turn.
use Rattle.methods.proofs.Filling.{filled_more, filled_none}
use Rattle.group_tables.proofs.count_squarings.Goals as goal

pub loop-col-init : goal.loop-col-init
loop-col-init c = filled_none _ _ _

pub loop-col-preserved : goal.loop-col-preserved
loop-col-preserved c = filled_more _ _ _ _ _ _ c.loop-col-test.true c.requires c.lessened.ensures c.loop-col.invariant
