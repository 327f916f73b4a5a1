-- The tables of the groups so far are stored.
use Rattle.products.specs.Inner.{steps_in, StepsStored}
use Rattle.groups.specs.Groups.{group_tables}
use Rattle.group_tables.proofs.make_tables.Given as goal

abbrev pub invariant-loop-g : goal.invariant-loop-g
invariant-loop-g l =
    StepsStored l.fn.steps l.steps l.progress (group_tables l.s.p l.s.c l.members (steps_in l.fn.steps l.fn.progress.steps) l.g)
