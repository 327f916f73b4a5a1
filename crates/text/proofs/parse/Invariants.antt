-- At each turn what the whole text comes to is what the bytes that are left come to, after the numbers that stand whole.
use Rattle.text.proofs.Reading.{Reads}
use Rattle.text.proofs.parse.Given as goal

abbrev pub invariant-loop-i : goal.invariant-loop-i
invariant-loop-i l = Reads l.by l.text l.from l.room l.fn.numbers l.made l.making l.i l.numbers
