-- The chain of the grouped sheet, whose columns, payslips and parameter are those given.
use Rattle.std.proofs.Common.{rules}
use Rattle.groups.proofs.Measured.{sheet_grouped}
use Rattle.partition_emit.proofs.Whole.{room_given}
use Rattle.partition_emit.proofs.emit.Goals as goal

pub make_chain-requires : goal.make_chain-requires
make_chain-requires c =
    let told = sheet_grouped c.requires.asked c.group_columns-s.ensures in
    record { grouped = told.grouped; members_room = search rules; cells_room = search rules; fits = room_given told c.requires.room }
