-- One row of each kind a turn, whose places are there, as is that of the row laid.
use Rattle.std.proofs.Common.{arith}
use Rattle.raising.proofs.Joining.{copy_asked, raise_asked, row_fits, row_on, there}
use Rattle.raising.proofs.raise_each.Goals as goal

pub bounds-s-front : goal.bounds-s-front
bounds-s-front c = omega (arith, there _ _ _ _ _ _ c.requires.0 _ _ _ c.loop-j.invariant c.loop-j-test.true)

pub bounds-s-front-in-loop-j : goal.bounds-s-front-in-loop-j
bounds-s-front-in-loop-j c = (there _ _ _ _ _ _ c.requires.0 _ _ _ c.loop-j.invariant c.loop-j-test.true).0

pub bounds-s-back : goal.bounds-s-back
bounds-s-back c = omega (arith, there _ _ _ _ _ _ c.requires.0 _ _ _ c.loop-j.invariant c.loop-j-test.true)

pub bounds-s-back-in-loop-j : goal.bounds-s-back-in-loop-j
bounds-s-back-in-loop-j c = (there _ _ _ _ _ _ c.requires.0 _ _ _ c.loop-j.invariant c.loop-j-test.true).1

pub copy-e-requires : goal.copy-e-requires
copy-e-requires c = copy_asked _ _ _ _ _ _ c.requires.0 _ _ _ c.loop-j.invariant c.loop-j-test.true

pub raise-e-requires : goal.raise-e-requires
raise-e-requires c =
    raise_asked _ _ _ _ _ _ c.requires.0 _ _ _ c.loop-j.invariant c.loop-j-test.true _ _ c.copy-e.ensures

pub overflow_cast-s : goal.overflow_cast-s
overflow_cast-s c =
    omega (
      arith,
      row_fits _ _ _ _ _ _ c.requires.0 _ _ _ c.loop-j.invariant c.loop-j-test.true _ _ c.copy-e.ensures _ _ c.raise-e.ensures,
    )

pub loop-j-preserved : goal.loop-j-preserved
loop-j-preserved c =
    row_on _ _ _ _ _ _ c.requires.0 _ _ _ c.loop-j.invariant c.loop-j-test.true _ _ c.copy-e.ensures _ _ c.raise-e.ensures
