-- One part a turn.
use Rattle.cuts.proofs.Rowing.{limit_low, part_asked, row_all, row_more}
use Rattle.cuts.proofs.cut_row.Goals as goal

pub overflow_mul-part : goal.overflow_mul-part
overflow_mul-part c = record { fits = limit_low _ _ _ _ _ _ _ c.requires _ _ _ _ c.loop-i.invariant c.loop-i-test.true }

pub cut_part-ends-requires : goal.cut_part-ends-requires
cut_part-ends-requires c =
    part_asked _ _ _ _ _ _ _ c.requires _ _ _ _ c.loop-i.invariant c.loop-i-test.true _ c.run_end-e.ensures

pub loop-i-preserved : goal.loop-i-preserved
loop-i-preserved c =
    row_more _ _ _ _ _ _ _ c.requires _ _ _ _ c.loop-i.invariant c.loop-i-test.true _ c.run_end-e.ensures _ _ _ c.cut_part-ends.ensures

pub returns : goal.returns
returns c = row_all _ _ _ _ _ _ _ c.requires _ _ _ _ c.loop-i.invariant c.loop-i-test.false
