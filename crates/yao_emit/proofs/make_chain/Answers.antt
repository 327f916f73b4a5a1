-- The squarings, then the payslips over them: room for both comes from the room for the chain, and the two together are the chain.
use Rattle.std.proofs.Common.{rules}
use Rattle.yao_emit.proofs.Whole.{counts_few, squarings_room, after_squarings, chain_made}
use Rattle.yao_emit.proofs.make_chain.Goals as goal

pub square_columns-squared-requires : goal.square_columns-squared-requires
square_columns-squared-requires c =
    record { asked = counts_few c.requires.asked; room = squarings_room c.requires.asked c.requires.room }

pub make_payslips-requires : goal.make_payslips-requires
make_payslips-requires c =
    record { asked = c.requires.asked.chain; room = after_squarings c.requires.asked c.requires.room c.square_columns-squared.ensures }

pub returns : goal.returns
returns c = search (rules, chain_made)
