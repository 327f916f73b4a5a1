-- What the line has decides all of its head.
use Rattle.std.proofs.Common.{rules}
use Rattle.lines.proofs.Lines.{tally_made, head_is}
use Rattle.lines.proofs.head_of.Goals as goal

pub fields-requires : goal.fields-requires
fields-requires c = tally_made _ _ c.tally_of-seen.ensures (search rules)

pub returns : goal.returns
returns c = head_is _ _ _ _ c.tally_of-seen.ensures c.parting_of-by.ensures c.fields.ensures
