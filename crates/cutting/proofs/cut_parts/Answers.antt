-- Nothing is cut off at first; each turn cuts one part off the front.
use Rattle.std.proofs.Common.{rules, refl}
use Rattle.std.proofs.Math.ListN.{length-set}
use Rattle.cutting.proofs.Rows.{cut_none, cut_on}
use Rattle.cutting.proofs.cut_parts.Goals as goal

pub loop-row-init : goal.loop-row-init
loop-row-init c = (search rules, cut_none _ _ _)

pub loop-row-preserved : goal.loop-row-preserved
loop-row-preserved c = (
  simp length-set (search rules),
  cut_on _ _ _ _ _ c.loop-row.invariant.1 _ _ refl refl refl (search rules) c.front.ensures (search rules),
)
