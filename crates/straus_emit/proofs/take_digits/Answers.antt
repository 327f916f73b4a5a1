-- Each digit's vector is an entry of the table, and its steps have room because those of all digits have it.
use Rattle.std.proofs.Common.{◌≡◌, ◌+◌, ◌-◌, ◌*◌, ap, ◌∙◌, arith}
use Rattle.products.proofs.Emitted.{emitted_own}
use Rattle.tables.specs.Table.{entry}
use Rattle.straus_emit.specs.Inner.{vector_at}
use Rattle.straus_emit.proofs.Emitting.{digit_room, digit_on}
use Rattle.straus_emit.proofs.take_digits.Goals as goal

pub loop-j-init : goal.loop-j-init
loop-j-init c =
    let none : c.args.digits - c.args.digits ≡ 0 = omega arith in
    rw none (search emitted_own)

pub take_digit-r-requires : goal.take_digit-r-requires
take_digit-r-requires c =
    let a = c.args in
    digit_room a.p a.k (λ j. entry a.k a.inputs.now (a.p + 1) (vector_at a.p a.cells.now a.masks.now (a.k * j)))
    a.digits a.steps.now a.progress _ _ _ _ _ c.loop-j-test.true c.loop-j.auto.j
    (c.entry-e.ensures ∙ ap (entry _ _ _) c.vector-t.ensures) c.loop-j.invariant c.requires.room

pub loop-j-preserved : goal.loop-j-preserved
loop-j-preserved c =
    let a = c.args in
    digit_on a.p a.k (λ j. entry a.k a.inputs.now (a.p + 1) (vector_at a.p a.cells.now a.masks.now (a.k * j)))
    a.digits a.steps.now a.progress _ _ _ _ _ c.loop-j-test.true c.loop-j.auto.j
    (c.entry-e.ensures ∙ ap (entry _ _ _) c.vector-t.ensures) c.loop-j.invariant _ _ _ c.take_digit-r.ensures
