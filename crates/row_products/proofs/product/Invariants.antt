-- What is made so far, and the factors that are left.
use Rattle.std.proofs.Math.Seq.{slice}
use Rattle.products.specs.Inner.{product_in}
use Rattle.clumps.specs.Levels.{product}
use Rattle.row_products.specs.Inner.{values_at}
use Rattle.row_products.proofs.Multiplying.{Multiplied}
use Rattle.row_products.proofs.product.Given as goal

abbrev pub invariant-loop-i : goal.invariant-loop-i
invariant-loop-i l =
    Multiplied l.p (product l.p (product_in l.fn.s l.fn.m) (values_at l.fn.s l.values (slice l.from l.to l.fn.s))) l.fn.s l.s l.m.progress l.m.value
    (values_at l.fn.s l.values (slice l.i l.to l.fn.s))
