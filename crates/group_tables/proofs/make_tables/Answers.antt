-- The next table is made from a stretch of the inputs, and stored behind those of the groups before.
use Rattle.products.proofs.Emitted.{stored_own}
use Rattle.group_tables.proofs.Tabling.{table_asked, table_on, table_room}
use Rattle.group_tables.proofs.make_tables.Goals as goal

pub loop-g-init : goal.loop-g-init
loop-g-init c = stored_own c.args.steps.now c.args.progress c.requires.room.so_far

pub make_table-progress-requires : goal.make_table-progress-requires
make_table-progress-requires c =
    let is = c.group_size.ensures in
    record {
      asked = table_asked c.requires c.loop-g.g c.loop-g-test.true is c.loop-g.invariant;
      room = table_room c.requires c.loop-g.g c.loop-g-test.true is c.loop-g.invariant;
    }

pub loop-g-preserved : goal.loop-g-preserved
loop-g-preserved c =
    table_on c.requires c.loop-g.g c.loop-g-test.true c.group_size.ensures c.loop-g.invariant c.make_table-progress.ensures
