-- A text without bytes is not cut off; else its last byte decides.
use Rattle.std.proofs.Common.{sym, ◌∙◌}
use Rattle.ends.proofs.Ends.{none_cut, ends_cut}
use Rattle.ends.proofs.is_cut.Goals as goal

pub returns-then-not-is_empty : goal.returns-then-not-is_empty
returns-then-not-is_empty c = ends_cut _ _ (sym c.is_empty.ensures ∙ c.if-not-is_empty.true) c.ends_with.ensures.value

pub returns-else-not-is_empty : goal.returns-else-not-is_empty
returns-else-not-is_empty c = none_cut _ _ c.is_empty.ensures c.if-not-is_empty.false
