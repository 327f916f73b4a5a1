-- The parts cut off so far stand in their cells, and what is left of the row is the rest.
use Rattle.std.proofs.Common.{◌+◌, ◌≤◌, length}
use Rattle.cutting.specs.Inner.{Cut}
use Rattle.cutting.proofs.cut_parts.Given as goal

abbrev pub invariant-loop-row : goal.invariant-loop-row
invariant-loop-row l = (l.row.g + l.row.held ≤ length l.cells) × Cut l.c l.fn.row l.row l.fn.cells l.cells

abbrev pub decreases-loop-row : goal.decreases-loop-row
decreases-loop-row l = l.row.held
