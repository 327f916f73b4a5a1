-- One column a turn: the cells hold the largest amounts of the columns so far.
use Rattle.std.proofs.Common.{◌≡◌, ℕ, ◌<◌, get_or}
use Rattle.methods.specs.Powers.{largest_in}
use Rattle.measuring.proofs.measure_columns.Given as goal

abbrev pub invariant-loop-c : goal.invariant-loop-c
invariant-loop-c l = (d : ℕ) → d < l.c → get_or l.cell-items d 0 ≡ largest_in l.p l.q l.amounts d
