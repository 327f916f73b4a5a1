-- Each row has room because the whole table has it.
use Rattle.std.proofs.Common.{rules}
use Rattle.tables.proofs.Rows.{tabling}
use Rattle.tables.proofs.make_table.Goals as goal

pub loop-d-init : goal.loop-d-init
loop-d-init c = search tabling

pub make_row-s-requires : goal.make_row-s-requires
make_row-s-requires c = record { asked = search rules; room = search tabling }

pub loop-d-preserved : goal.loop-d-preserved
loop-d-preserved c = search tabling
