-- The text after its mark is read, and the answer told.
use Rattle.table.specs.Table.{table_in}
use Rattle.places.proofs.Marks.{start_within}
use Rattle.text.proofs.Outcomes.{body_told}
use Rattle.table.proofs.table.Goals as goal

pub slice_bounds-read_table-count : goal.slice_bounds-read_table-count
slice_bounds-read_table-count c = start_within _ _ c.mark_length-start.ensures

pub slice_bounds-read_table-start : goal.slice_bounds-read_table-start
slice_bounds-read_table-start c = start_within _ _ c.mark_length-start.ensures

pub returns : goal.returns
returns c =
    let told = body_told table_in _ _ _ _ _ _ _ _ c.mark_length-start.ensures c.read_table-read.ensures c.tell_text.ensures in
    record { value = told.0; answer_after = told.1.0; amounts_after = told.1.1 }
