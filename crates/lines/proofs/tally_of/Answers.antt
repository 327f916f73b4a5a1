-- The tally at hand and the bytes that are left come to the whole tally, so one more of each can be counted.
use Rattle.std.proofs.Common.{rules}
use Rattle.lines.proofs.Lines.{tally_start_lem, tally_room, tally_next, tally_end}
use Rattle.lines.proofs.tally_of.Goals as goal

pub loop-b-init : goal.loop-b-init
loop-b-init c = tally_start_lem _

pub count-so_far-requires : goal.count-so_far-requires
count-so_far-requires c =
    let s = c.loop-b.invariant in
    record { low = tally_room _ _ _ _ s (search rules); gap_low = s.gap_low }

pub loop-b-preserved : goal.loop-b-preserved
loop-b-preserved c = tally_next _ _ _ _ c.loop-b.invariant _ _ c.loop-b-test.true c.count-so_far.ensures c.blank-gap.ensures

pub returns : goal.returns
returns c = tally_end _ _ _ _ c.loop-b.invariant c.loop-b-test.false
