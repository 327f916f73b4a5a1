-- The steps of the tables so far, each at most 2^8.
use Rattle.std.proofs.Common.{◌≡◌, ◌*◌, ◌≤◌, ◌^◌}
use Rattle.groups.specs.Groups.{most_members, tables_count}
use Rattle.subsets.proofs.tables_count.Given as goal

abbrev pub invariant-loop-g : goal.invariant-loop-g
invariant-loop-g l = (l.n ≡ tables_count l.s.c l.s.inputs l.g) × (l.n ≤ 2 ^ most_members * l.g)
