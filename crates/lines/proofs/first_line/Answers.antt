-- The content lies within its line.
use Rattle.lines.proofs.Lines.{content_long}
use Rattle.lines.proofs.first_line.Goals as goal

pub slice_bounds-head_of-end : goal.slice_bounds-head_of-end
slice_bounds-head_of-end c = content_long _ _ c.content_length.ensures
