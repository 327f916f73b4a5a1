-- The text is cut off, or what was parsed is told.
use Rattle.text.proofs.Outcomes.{numbers_cut, numbers_count, numbers_flaw}
use Rattle.numbers.proofs.read_numbers.Goals as goal

pub returns-then-is_cut : goal.returns-then-is_cut
returns-then-is_cut c = numbers_cut _ _ c.is_cut.ensures _ c.if-is_cut.true _ _ c.cut_text.ensures

pub returns-in-Ok : goal.returns-in-Ok
returns-in-Ok c = numbers_count _ _ c.is_cut.ensures _ c.if-is_cut.false _ _ _ c.in-Ok.ensures

pub returns-in-Err : goal.returns-in-Err
returns-in-Err c = numbers_flaw _ _ c.is_cut.ensures _ c.if-is_cut.false _ _ _ _ c.in-Err.ensures c.refuse.ensures
