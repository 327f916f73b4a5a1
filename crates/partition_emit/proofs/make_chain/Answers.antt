-- The squarings and tables are stored, then the payslips after them, and make the chain.
use Rattle.groups.proofs.Measured.{sheet_inputs}
use Rattle.partition_emit.proofs.Whole.{begin_fits, chain_whole, slips_room}
use Rattle.partition_emit.proofs.make_chain.Goals as goal

pub make_groups-tables-requires : goal.make_groups-tables-requires
make_groups-tables-requires c = begin_fits c.requires.grouped c.requires.fits _ c.requires.members_room

pub make_payslips-requires : goal.make_payslips-requires
make_payslips-requires c =
    let are = sheet_inputs c.requires.grouped c.make_groups-tables.ensures in
    record {
      asked = record { grouped = c.requires.grouped; members_are = are; room = c.requires.cells_room };
      room = slips_room c.requires.grouped c.requires.fits c.make_groups-tables.ensures;
    }

pub returns : goal.returns
returns c = chain_whole c.requires.grouped c.requires.fits c.make_groups-tables.ensures c.make_payslips.ensures
