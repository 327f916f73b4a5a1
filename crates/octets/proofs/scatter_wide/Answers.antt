-- Fewer than four bytes are the first half's alone; four or more are that half whole and then the first ones of the other (`stored_some`, `stored_more`).
use Rattle.std.proofs.Common.{arith, refl}
use Rattle.octets.proofs.Spread.{stored_some, stored_more}
use Rattle.octets.proofs.scatter_wide.Goals as goal

pub returns-then-count-lt4 : goal.returns-then-count-lt4
returns-then-count-lt4 c = stored_some _ _ c.args.count _ _ _ c.args.count refl (omega arith) c.scatter.ensures

pub returns-then-count-gt4 : goal.returns-then-count-gt4
returns-then-count-gt4 c =
    stored_more c.args.buf.now c.args.i c.args.count _ _ _ _ (omega arith) (omega arith) c.scatter-2.ensures c.scatter-then-count-gt4.ensures

pub returns-else-count-gt4 : goal.returns-else-count-gt4
returns-else-count-gt4 c = stored_some _ _ c.args.count _ _ _ 4 (omega arith) (omega arith) c.scatter-2.ensures
