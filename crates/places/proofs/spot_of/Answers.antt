-- The bytes before the place are those of the definition, and each moves the spot on.
use Rattle.std.proofs.Common.{◌∙◌, ap, length, min}
use Rattle.places.proofs.Spots.{spot_start, spot_next}
use Rattle.places.proofs.spot_of.Goals as goal

pub loop-b-init : goal.loop-b-init
loop-b-init c = spot_start _ _ _ (c.min-before.ensures ∙ ap (λ n. min n (length c.args.text.now)) c.saturating_sub.ensures)

pub loop-b-preserved : goal.loop-b-preserved
loop-b-preserved c = spot_next _ _ _ _ c.loop-b.invariant _ c.loop-b-test.true c.after-spot.ensures
