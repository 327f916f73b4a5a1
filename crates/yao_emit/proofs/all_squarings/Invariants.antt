-- One column a turn: the cells hold the squarings of the columns so far.
use Rattle.std.proofs.Common.{◌≡◌, ℕ, ◌<◌, get_or}
use Rattle.yao.specs.Inner.{squarings_in}
use Rattle.yao_emit.proofs.all_squarings.Given as goal

abbrev pub invariant-loop-c : goal.invariant-loop-c
invariant-loop-c l = (d : ℕ) → d < l.c → get_or l.count-items d 0 ≡ squarings_in l.k l.columns d
