-- Row by row: the table of the rows so far, after the steps that were there.
use Rattle.std.proofs.Common.{◌*◌, ◌^◌, ◌++◌}
use Rattle.products.specs.Inner.{steps_in, StepsStored}
use Rattle.tables.specs.Table.{table}
use Rattle.tables.proofs.make_table.Given as goal

abbrev pub invariant-loop-d : goal.invariant-loop-d
invariant-loop-d l =
    StepsStored l.fn.steps l.steps l.s (steps_in l.fn.steps l.fn.progress.steps ++ table l.k l.inputs l.at (2 ^ (l.k * l.d)))
