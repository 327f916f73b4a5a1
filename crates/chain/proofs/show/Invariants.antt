-- After j turns the figures of the first j outputs stand at the front; what the slice will be in the end stays the same.
use Rattle.std.proofs.Common.{◌≡◌}
use Rattle.chain.specs.Chain.{pick}
use Rattle.chain.specs.Written.{over}
use Rattle.chain.proofs.Picked.{figures_left}
use Rattle.chain.proofs.show.Given as goal

abbrev pub invariant-loop-j : goal.invariant-loop-j
invariant-loop-j l = over (pick l.values l.outputs) l.fn.figures ≡ figures_left l.values l.outputs l.j l.figures
