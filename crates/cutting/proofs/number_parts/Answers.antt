-- All columns are entered: what the row still holds is the last part, and there is none where it holds nothing.
use Rattle.std.proofs.Common.{arith}
use Rattle.groups.proofs.Measured.{grouped_count, grouped_few}
use Rattle.cutting.proofs.Rows.{part_last, row_end, row_low}
use Rattle.cutting.proofs.number_parts.Goals as goal

pub overflow_cast-cells : goal.overflow_cast-cells
overflow_cast-cells c = omega (arith, row_low _ _ _ _ _ _ _ c.enter_columns-r.ensures c.requires.grouped.cuts.few)

pub returns-then-r-ne0 : goal.returns-then-r-ne0
returns-then-r-ne0 c =
    part_last _ _ _ _ _ _ c.enter_columns-r.ensures (grouped_count c.requires.grouped) c.if-r-ne0.true (grouped_few c.requires.grouped) c.requires.room

pub returns-else-r-ne0 : goal.returns-else-r-ne0
returns-else-r-ne0 c = row_end _ _ _ _ _ _ c.enter_columns-r.ensures (grouped_count c.requires.grouped) c.if-r-ne0.false
