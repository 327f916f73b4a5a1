-- The chain of the rows so far.
use Rattle.products.specs.Inner.{steps_in}
use Rattle.row_products.specs.Inner.{joined}
use Rattle.row_products.proofs.Chaining.{Making, slip_of}
use Rattle.row_products.proofs.join.Given as goal

abbrev pub invariant-loop-j : goal.invariant-loop-j
invariant-loop-j l = Making l.to (slip_of l.p (joined l.fn.s l.joint)) (steps_in l.fn.s l.fn.done.steps) l.j l.done l.fn.s l.s
