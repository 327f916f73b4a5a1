-- The cells filled are zeros over the front.
use Rattle.verify.proofs.Cleared.{zeros_over}
use Rattle.columns.proofs.clear.Goals as goal

pub returns : goal.returns
returns c = zeros_over _ _ _ c.requires (c.fill.ensures.after (λ y e. e))
