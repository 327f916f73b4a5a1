-- The numbers are gone through as a part of the slice, which holds the same as the contract's.
use Rattle.std.proofs.Common.{ℕ, List, ◌-◌, arith, ap, ◌∙◌}
use Rattle.std.proofs.lemmas.Slice.{between_is}
use Rattle.keys.specs.Inner.{weight_of}
use Rattle.keys.proofs.Weighing.{weighed_all, weighed_below, weighed_none, weighed_on}
use Rattle.keys.proofs.key.Goals as goal

pub loop-x-init : goal.loop-x-init
loop-x-init c =
    let is = between_is c.args.s.now c.args.from c.args.to in
    weighed_none _ _ _ (rw is c.requires.climbs) (rw is c.requires.light)

pub overflow_sub-limit : goal.overflow_sub-limit
overflow_sub-limit c = omega (arith, weighed_below _ _ _ _ _ c.loop-x.invariant c.loop-x-test.true)

pub loop-x-preserved : goal.loop-x-preserved
loop-x-preserved c = rw c.power-k.ensures (weighed_on _ _ _ _ _ c.loop-x.invariant c.loop-x-test.true)

pub returns : goal.returns
returns c =
    let is = between_is c.args.s.now c.args.from c.args.to in
    weighed_all _ _ _ _ _ c.loop-x.invariant c.loop-x-test.false ∙ ap (λ (u : List ℕ). c.args.top - weight_of c.args.limit u) is
