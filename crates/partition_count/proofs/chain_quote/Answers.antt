-- Squarings, tables and payslips of the grouping add up to the count, and with a part of every group for each payslip to the ceiling.
use Rattle.partition_count.proofs.Joining.{quote_all}
use Rattle.partition_count.proofs.chain_quote.Goals as goal

pub returns : goal.returns
returns c =
    quote_all c.args.s c.args.amounts.now c.args.bits.now c.requires _ _ _ c.tables_count.ensures.is c.payslips_count.ensures.is
    c.lessened.ensures
