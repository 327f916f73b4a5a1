-- One row a turn.
use Rattle.std.proofs.Common.{arith}
use Rattle.row_products.proofs.Separating.{separate_all, separate_asked, separate_none, separate_on}
use Rattle.row_products.proofs.separately.Goals as goal

pub loop-j-init : goal.loop-j-init
loop-j-init c = separate_none _ _ _ _ _ c.requires

pub row_product-r-requires : goal.row_product-r-requires
row_product-r-requires c = separate_asked _ _ _ _ _ c.requires _ c.loop-j-test.true _ _ c.loop-j.invariant

pub loop-j-preserved : goal.loop-j-preserved
loop-j-preserved c =
    separate_on _ _ _ _ _ c.requires _ c.loop-j-test.true _ _ c.loop-j.invariant _ _ _ c.row_product-r.ensures

pub returns : goal.returns
returns c = separate_all _ _ _ _ _ c.requires _ _ _ (omega arith) c.loop-j-test.false c.loop-j.invariant
