-- The larger operand is stored first, and the step is counted if the two are equal (`put_ordered`).
-- The squarings so far are no more than the steps, and those fit the slice.
use Rattle.std.proofs.Common.{arith}
use Rattle.products.proofs.Emitted.{squarings_within, put_ordered}
use Rattle.products.proofs.put.Goals as goal

pub overflow_add-result-2 : goal.overflow_add-result-2
overflow_add-result-2 c =
    omega (arith, squarings_within _ _ c.requires.so_far, c.requires.enough, c.squaring.ensures.low)

pub returns : goal.returns
returns c = search put_ordered
