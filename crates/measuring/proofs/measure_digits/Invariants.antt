-- One number a turn: the cells hold the digits of the numbers so far.
use Rattle.std.proofs.Common.{◌≡◌, ℕ, ◌<◌, get_or}
use Rattle.methods.specs.Inner.{digits_at}
use Rattle.measuring.proofs.measure_digits.Given as goal

abbrev pub invariant-loop-c : goal.invariant-loop-c
invariant-loop-c l = (d : ℕ) → d < l.c → get_or l.cell-items d 0 ≡ digits_at l.k l.numbers d
