-- One row a turn, whose places are there, as are those of what it is cut into.
use Rattle.std.proofs.Common.{arith, refl}
use Rattle.cuts.proofs.Cutting.{all_cut, ends_fit, more_cut, row_asked, there}
use Rattle.cuts.proofs.cut_each.Goals as goal

pub bounds-s-at : goal.bounds-s-at
bounds-s-at c = omega (arith, there _ _ _ _ _ _ c.requires.asked _ _ _ _ c.loop-j.invariant c.loop-j-test.true)

pub bounds-s-at-in-loop-j : goal.bounds-s-at-in-loop-j
bounds-s-at-in-loop-j c = there _ _ _ _ _ _ c.requires.asked _ _ _ _ c.loop-j.invariant c.loop-j-test.true

pub cut_row-ends-requires : goal.cut_row-ends-requires
cut_row-ends-requires c = row_asked _ _ _ _ _ _ c.requires.asked _ _ _ _ c.loop-j.invariant c.loop-j-test.true

pub overflow_cast-s-in-loop-j : goal.overflow_cast-s-in-loop-j
overflow_cast-s-in-loop-j c =
    let fit = ends_fit _ _ _ _ _ _ c.requires.asked _ _ _ _ c.loop-j.invariant c.loop-j-test.true _ _ _ c.cut_row-ends.ensures in
    omega (arith, fit.1)

pub loop-j-preserved : goal.loop-j-preserved
loop-j-preserved c =
    more_cut _ _ _ _ _ _ c.requires.asked _ _ _ _ c.loop-j.invariant c.loop-j-test.true _ _ _ c.cut_row-ends.ensures

pub returns : goal.returns
returns c = all_cut _ _ _ _ _ _ c.requires.asked _ _ _ _ c.loop-j.invariant c.loop-j-test.false _ refl refl
