-- The laws of the two calls in a row.
use Rattle.std.proofs.Common.{arith}
use Rattle.cuts.proofs.Parting.{left_low, part_cut, run_asked, taken_are}
use Rattle.cuts.proofs.cut_part.Goals as goal

pub cut_run-keys-requires : goal.cut_run-keys-requires
cut_run-keys-requires c =
    let pre = c.requires in
    let low = left_low _ _ _ _ _ _ _ _ pre in
    rw c.last_key-top.ensures
    (run_asked _ _ _ _ _ _ _ _ pre _ _ (omega (arith, low, pre.room.order)) (omega (arith, low, pre.room.order)) (omega (arith, low, pre.room.order))
    (omega (arith, low, pre.room.order, taken_are _ _ _ _ _ _ _ _ pre)))

pub returns : goal.returns
returns c =
    part_cut _ _ _ _ _ _ _ _ c.requires _ _ (rw c.last_key-top.ensures at c.cut_run-keys.ensures) _ _ c.copy-rest.ensures
