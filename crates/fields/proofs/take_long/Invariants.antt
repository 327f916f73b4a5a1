-- What the cells are to become does not change while fields move from the file into them, two at a time, and a last one by itself.
use Rattle.std.proofs.Common.{◌+◌, ◌-◌, ◌*◌}
use Rattle.chain.specs.Written.{over}
use Rattle.bits.specs.Bits.{fields_at}
use Rattle.fields.proofs.Taking.{Taking}
use Rattle.fields.proofs.take_long.Given as goal

abbrev pub invariant-loop-i : goal.invariant-loop-i
invariant-loop-i l =
    Taking l.file (over (fields_at l.file l.initial.c.at l.width l.count) l.initial.out) (l.initial.c.at + l.count * l.width) l.width l.count l.out l.c.at l.i

abbrev pub decreases-loop-i : goal.decreases-loop-i
decreases-loop-i l = l.count - l.i
