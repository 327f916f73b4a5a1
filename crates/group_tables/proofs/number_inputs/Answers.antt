-- The numbers stay small, and each column's stand behind those of the columns before.
use Rattle.std.proofs.Common.{arith, rules}
use Rattle.methods.proofs.Paying.{over_none}
use Rattle.groups.proofs.Numbering.{column_on, column_room, first_number, first_on, inputs_on, number_room}
use Rattle.group_tables.proofs.number_inputs.Goals as goal

pub loop-col-init : goal.loop-col-init
loop-col-init c = (search rules, search rules, search over_none)

pub number_column-requires : goal.number_column-requires
number_column-requires c =
    let (at, first, _) = c.loop-col.invariant in
    let room = number_room c.requires c.loop-col.col at first c.loop-col-test.true in
    let cells = column_room c.requires c.loop-col.col at first c.loop-col-test.true in
    (omega (arith, c.requires.columns), room, cells c.loop-col.cells c.loop-col.auto.cells)

pub overflow_add-first : goal.overflow_add-first
overflow_add-first c =
    let (at, first, _) = c.loop-col.invariant in
    omega (arith, first_number c.requires c.loop-col.col at first c.loop-col-test.true, c.lessened-first.ensures)

pub loop-col-preserved : goal.loop-col-preserved
loop-col-preserved c =
    let (at, first, are) = c.loop-col.invariant in
    let inside = c.loop-col-test.true in (
      column_on c.requires c.loop-col.col at first inside,
      first_on c.requires c.loop-col.col at first inside c.lessened-first.ensures,
      inputs_on c.requires c.loop-col.col at first inside are c.number_column.ensures,
    )
