-- The text begins with the mark's three bytes or not.
use Rattle.ends.proofs.Ends.{mark_starts}
use Rattle.ends.proofs.mark_length.Goals as goal

pub returns-then-starts_with : goal.returns-then-starts_with
returns-then-starts_with c = mark_starts _ _ c.if-starts_with.ensures.value

pub returns-else-starts_with : goal.returns-else-starts_with
returns-else-starts_with c = mark_starts _ _ c.if-starts_with.ensures.value
