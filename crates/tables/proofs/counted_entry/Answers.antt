-- The entry's digits are no more than the inputs and than its number.
use Rattle.std.proofs.Common.{rules}
use Rattle.tables.proofs.Tabling.{entering}
use Rattle.tables.proofs.counted_entry.Goals as goal

pub offset_bounds-inputs-d : goal.offset_bounds-inputs-d
offset_bounds-inputs-d c = search (rules, entering)

pub bounds-inputs-d : goal.bounds-inputs-d
bounds-inputs-d c = search entering

pub overflow_sub-made : goal.overflow_sub-made
overflow_sub-made c = search entering
