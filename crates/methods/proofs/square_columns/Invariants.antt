-- One column a turn: the squarings of the columns so far, which the squarings of all begin with.
use Rattle.methods.specs.Powers.{counts_of, squarings}
use Rattle.products.specs.Inner.{StepsStored}
use Rattle.methods.proofs.square_columns.Given as goal

abbrev pub invariant-loop-c : goal.invariant-loop-c
invariant-loop-c l = StepsStored l.fn.steps l.steps l.progress (squarings l.p (counts_of l.counts) l.c)
