-- One column a turn: the cells hold the raised amounts of the columns so far.
use Rattle.std.proofs.Common.{◌≡◌, ℕ, ◌<◌, get_or}
use Rattle.straus_emit.specs.Inner.{raised_at}
use Rattle.straus_emit.proofs.raise_amounts.Given as goal

abbrev pub invariant-loop-c : goal.invariant-loop-c
invariant-loop-c l = (d : ℕ) → d < l.c → get_or l.cell-items d 0 ≡ raised_at l.p l.amounts l.k l.i d
