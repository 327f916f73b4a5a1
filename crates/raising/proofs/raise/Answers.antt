-- One cell a turn.
use Rattle.raising.proofs.Raising.{raise_all, raise_more}
use Rattle.raising.proofs.raise.Goals as goal

pub loop-i-preserved : goal.loop-i-preserved
loop-i-preserved c = raise_more _ _ _ _ _ c.requires _ _ _ c.loop-i.invariant c.loop-i-test.true

pub returns : goal.returns
returns c = raise_all _ _ _ _ _ c.requires _ _ _ c.loop-i.invariant c.loop-i-test.false
