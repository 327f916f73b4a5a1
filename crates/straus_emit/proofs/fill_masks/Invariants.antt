-- One column a turn: the cells hold the masks of the columns so far.
use Rattle.std.proofs.Common.{◌≡◌, ℕ, ◌<◌, get_or}
use Rattle.straus_emit.specs.Inner.{mask_at}
use Rattle.straus_emit.proofs.fill_masks.Given as goal

abbrev pub invariant-loop-c : goal.invariant-loop-c
invariant-loop-c l = (d : ℕ) → d < l.c → get_or l.cell-items d 0 ≡ mask_at l.k d
