-- The text after its mark is read, and the answer told.
use Rattle.text.specs.Text.{numbers_in}
use Rattle.places.proofs.Marks.{start_within}
use Rattle.text.proofs.Outcomes.{body_told}
use Rattle.numbers.proofs.numbers.Goals as goal

pub slice_bounds-read_numbers-count : goal.slice_bounds-read_numbers-count
slice_bounds-read_numbers-count c = start_within _ _ c.mark_length-start.ensures

pub slice_bounds-read_numbers-start : goal.slice_bounds-read_numbers-start
slice_bounds-read_numbers-start c = start_within _ _ c.mark_length-start.ensures

pub returns : goal.returns
returns c =
    let told = body_told numbers_in _ _ _ _ _ _ _ _ c.mark_length-start.ensures c.read_numbers-read.ensures c.tell_text.ensures in
    record { value = told.0; answer_after = told.1.0; numbers_after = told.1.1 }
