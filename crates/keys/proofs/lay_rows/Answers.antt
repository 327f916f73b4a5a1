-- One key a turn: its clump is one row more.
use Rattle.std.proofs.Common.{arith, refl}
use Rattle.keys.proofs.Clumps.{row_asked, row_end, row_on, row_room}
use Rattle.keys.proofs.lay_rows.Goals as goal

pub lay_clump-e-requires : goal.lay_clump-e-requires
lay_clump-e-requires c = row_asked _ _ _ _ _ c.requires.0 _ _ _ c.loop-j.invariant c.loop-j-test.true _ refl

pub overflow_cast-s : goal.overflow_cast-s
overflow_cast-s c =
    let asked = c.requires.0 in
    let inv = c.loop-j.invariant in
    let end = row_end _ _ _ _ _ asked _ _ _ inv c.loop-j-test.true _ refl _ _ c.lay_clump-e.ensures in
    omega (arith, end, row_room _ _ _ _ _ asked _ _ _ inv c.loop-j-test.true _ refl)

pub loop-j-preserved : goal.loop-j-preserved
loop-j-preserved c =
    row_on _ _ _ _ _ c.requires.0 _ _ _ c.loop-j.invariant c.loop-j-test.true _ refl _ _ c.lay_clump-e.ensures
