-- The tally was made by the code.
use Rattle.std.proofs.Common.{rules}
use Rattle.lines.proofs.Lines.{tally_made}
use Rattle.lines.proofs.field_count.Goals as goal

pub fields-requires : goal.fields-requires
fields-requires c = tally_made _ _ c.tally_of.ensures (search rules)
