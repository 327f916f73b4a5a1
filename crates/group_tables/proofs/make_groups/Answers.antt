-- The inputs are laid, the squarings stored, and the tables after them, each where the room for all leaves room for it.
use Rattle.group_tables.proofs.Making.{groups_made, inputs_room, squares_room, tables_room}
use Rattle.group_tables.proofs.make_groups.Goals as goal

pub make_squarings-first-requires : goal.make_squarings-first-requires
make_squarings-first-requires c = record { asked = (inputs_room c.requires).columns; room = squares_room c.requires }

pub make_tables-requires : goal.make_tables-requires
make_tables-requires c = tables_room c.requires c.number_inputs.ensures c.make_squarings-first.ensures

pub returns : goal.returns
returns c = groups_made c.requires c.number_inputs.ensures c.make_squarings-first.ensures c.make_tables.ensures
