-- One squaring a turn: the product squared so often, whose steps the whole begins with.
use Rattle.products.specs.Product.{squared}
use Rattle.products.specs.Inner.{product_in, Emitted}
use Rattle.products.proofs.squared.Given as goal

abbrev pub invariant-loop : goal.invariant-loop
invariant-loop l = Emitted l.fn.steps l.steps l.r.progress l.r.value (squared l.p l.counter (product_in l.fn.steps l.fn.m))
