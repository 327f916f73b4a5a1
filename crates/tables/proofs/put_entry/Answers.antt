-- An entry that is no unit is its rest, which has as many digits, times one input.
use Rattle.std.proofs.Common.{rules}
use Rattle.tables.proofs.Tabling.{extending}
use Rattle.tables.proofs.put_entry.Goals as goal

pub overflow_sub-t : goal.overflow_sub-t
overflow_sub-t c = search extending

pub offset_bounds-inputs-l : goal.offset_bounds-inputs-l
offset_bounds-inputs-l c = search (rules, extending)

pub bounds-inputs-l : goal.bounds-inputs-l
bounds-inputs-l c = search extending

pub returns : goal.returns
returns c = search extending
