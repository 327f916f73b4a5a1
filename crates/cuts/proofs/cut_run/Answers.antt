-- One clump a turn; its key is laid.
use Rattle.cuts.proofs.Keying.{key_asked, keys_all, keys_more}
use Rattle.cuts.proofs.cut_run.Goals as goal

pub key-requires : goal.key-requires
key-requires c = key_asked _ _ _ _ _ _ _ c.requires _ _ _ c.loop-i.invariant c.loop-i-test.true

pub loop-i-preserved : goal.loop-i-preserved
loop-i-preserved c = keys_more _ _ _ _ _ _ _ c.requires _ _ _ c.loop-i.invariant c.loop-i-test.true _ c.key.ensures

pub returns : goal.returns
returns c = keys_all _ _ _ _ _ _ _ c.requires _ _ _ c.loop-i.invariant c.loop-i-test.false
