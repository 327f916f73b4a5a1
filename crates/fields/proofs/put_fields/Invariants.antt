-- What the buffer is to become does not change while fields move from the list into it, two at a time, and a last one by itself.
use Rattle.std.proofs.Common.{◌+◌, ◌-◌, ◌*◌, take}
use Rattle.fields.proofs.Putting.{Putting, filed_from}
use Rattle.fields.proofs.put_fields.Given as goal

abbrev pub invariant-loop-j : goal.invariant-loop-j
invariant-loop-j l =
    Putting (filed_from l.initial.buf l.initial.c.at l.width (take l.count l.list)) (l.initial.c.at + l.count * l.width) l.width l.list l.count l.buf l.c.at l.j

abbrev pub decreases-loop-j : goal.decreases-loop-j
decreases-loop-j l = l.count - l.j
