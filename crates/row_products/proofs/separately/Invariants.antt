-- The chain of the rows so far.
use Rattle.products.specs.Inner.{steps_in}
use Rattle.row_products.proofs.Chaining.{Making, slip_of}
use Rattle.row_products.proofs.Separating.{factors_in}
use Rattle.row_products.proofs.separately.Given as goal

abbrev pub invariant-loop-j : goal.invariant-loop-j
invariant-loop-j l = Making l.to (slip_of l.p (factors_in l.fn.s l.problem)) (steps_in l.fn.s l.fn.done.steps) l.j l.done l.fn.s l.s
