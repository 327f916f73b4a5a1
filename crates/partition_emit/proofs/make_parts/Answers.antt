-- The next part's value is read off its group's table, and there is a number for each group.
use Rattle.std.proofs.Common.{arith, ◌<◌}
use Rattle.methods.specs.Powers.{counts_of}
use Rattle.products.specs.Inner.{steps_in}
use Rattle.products.proofs.Emitted.{emitted_own}
use Rattle.partition_emit.proofs.Paying.{part_on, part_room}
use Rattle.partition_emit.proofs.make_parts.Goals as goal

pub loop-g-init : goal.loop-g-init
loop-g-init c = emitted_own _ _ _ _ _ c.requires.room

pub part_value-y-requires : goal.part_value-y-requires
part_value-y-requires c =
    let asked = c.requires.asked in
    let inside : c.loop-g.g < c.args.s.groups = omega (arith, asked.numbers_long) in
    record { cuts = asked.cuts; long = asked.members_long; inside = inside; part = asked.numbers_low c.loop-g.g inside }

pub times-r-requires : goal.times-r-requires
times-r-requires c =
    let a = c.args in
    part_room a.s a.members.now (counts_of a.numbers.now) (steps_in a.steps.now a.progress.steps) a.steps.now _ _ _ c.loop-g.g _
    c.loop-g.invariant c.part_value-y.ensures a.progress c.requires.room (omega (arith, c.requires.asked.numbers_long))

pub loop-g-preserved : goal.loop-g-preserved
loop-g-preserved c =
    let a = c.args in
    part_on a.s a.members.now (counts_of a.numbers.now) (steps_in a.steps.now a.progress.steps) a.steps.now _ _ _ c.loop-g.g _
    c.loop-g.invariant c.part_value-y.ensures _ _ _ c.times-r.ensures
