-- The grouping is that of the sheet.
use Rattle.groups.proofs.Measured.{sheet_grouped}
use Rattle.partition_count.proofs.quote.Goals as goal

pub chain_quote-requires : goal.chain_quote-requires
chain_quote-requires c = (sheet_grouped c.requires c.group_columns-s.ensures).grouped
