-- The table, then the payslips over it: room for both comes from the room for the chain, and the two together are the chain.
use Rattle.std.proofs.Common.{rules}
use Rattle.straus_emit.proofs.Whole.{table_asked, table_room, after_table, chain_made}
use Rattle.straus_emit.proofs.make_chain.Goals as goal

pub make_table-table-requires : goal.make_table-table-requires
make_table-table-requires c =
    record { asked = table_asked c.requires.asked; room = table_room c.requires.asked c.requires.room }

pub make_payslips-requires : goal.make_payslips-requires
make_payslips-requires c =
    record { asked = c.requires.asked; room = after_table c.requires.asked c.requires.room c.make_table-table.ensures }

pub returns : goal.returns
returns c = search (rules, chain_made)
