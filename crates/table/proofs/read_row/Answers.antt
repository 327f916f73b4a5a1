-- The line is read without its carriage return.
use Rattle.std.proofs.Common.{ap}
use lib.ListN.{take}
use Rattle.lines.proofs.Lines.{content_long}
use Rattle.table.proofs.Rows.{row_of}
use Rattle.table.proofs.read_row.Goals as goal

pub slice_bounds-content-end : goal.slice_bounds-content-end
slice_bounds-content-end c = content_long _ _ c.content_length.ensures

pub returns : goal.returns
returns c =
    row_of _ _ _ _ _ _ _ _ _ _ (ap (λ n. take n c.args.line.now) c.content_length.ensures)
    c.read_content.ensures
