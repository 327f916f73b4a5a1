-- One row a turn, by two products.
use Rattle.std.proofs.Common.{arith}
use Rattle.row_products.proofs.Joining.{clumps_asked, join_all, join_none, join_on, rest_asked}
use Rattle.row_products.proofs.join.Goals as goal

pub loop-j-init : goal.loop-j-init
loop-j-init c = join_none _ _ _ _ _ c.requires

pub row_product-clumped-requires : goal.row_product-clumped-requires
row_product-clumped-requires c = clumps_asked _ _ _ _ _ c.requires _ c.loop-j-test.true _ _ c.loop-j.invariant

pub times_row-both-requires : goal.times_row-both-requires
times_row-both-requires c =
    rest_asked _ _ _ _ _ c.requires _ c.loop-j-test.true _ _ c.loop-j.invariant _ _ _ c.row_product-clumped.ensures

pub loop-j-preserved : goal.loop-j-preserved
loop-j-preserved c =
    join_on _ _ _ _ _ c.requires _ c.loop-j-test.true _ _ c.loop-j.invariant _ _ _ c.row_product-clumped.ensures _ _ _ c.times_row-both.ensures

pub returns : goal.returns
returns c = join_all _ _ _ _ _ c.requires _ _ _ (omega arith) c.loop-j-test.false c.loop-j.invariant
