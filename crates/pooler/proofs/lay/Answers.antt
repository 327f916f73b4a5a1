-- A turn lays one number more.
use Rattle.std.proofs.Common.{◌∙◌, arith}
use lib.ListN.{length-map}
use Rattle.chain.proofs.Laying.{lay_none, lay_more, lay_all}
use Rattle.pool.specs.Pool.{renumbered}
use Rattle.pooler.proofs.Laid.{number_laid}
use Rattle.pooler.proofs.lay.Goals as goal

pub loop-i-init : goal.loop-i-init
loop-i-init c = lay_none _ _ _

pub loop-i-preserved : goal.loop-i-preserved
loop-i-preserved c =
    let long = length-map c.args.numbers.now (renumbered c.args.to.p c.args.to.n) in
    lay_more _ _ _ _ _ _ (omega (arith, long, c.loop-i-test.true)) (omega (arith, long, c.requires.room))
    (c.renumber.ensures ∙ number_laid _ _ _ _ c.loop-i-test.true) c.loop-i.invariant

pub returns : goal.returns
returns c =
    lay_all _ _ _ _ _ (omega (arith, length-map c.args.numbers.now (renumbered c.args.to.p c.args.to.n), c.loop-i-test.false)) c.loop-i.invariant
