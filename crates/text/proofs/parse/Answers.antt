-- A turn keeps what the text comes to, by the effect of its byte; the last turn is that of the text's end.
use Rattle.std.proofs.Common.{◌+◌, ◌<◌, ◌≤◌, length, arith}
use Rattle.text.proofs.Reading.{reads_start, reads_end, reads_room, reads_stop, on_becomes, on_ends}
use Rattle.text.proofs.parse.Goals as goal
use Rattle.text.proofs.parse.Goals.{in-Becomes, in-Ends}

pub loop-i-init : goal.loop-i-init
loop-i-init c = reads_start _ _ _ _ _

-- a number that ends has a cell
cell : (c : goal.In-Ends) → c.args.from + c.loop-i.made < length c.args.numbers.now
cell c =
    let low = reads_room _ _ _ _ _ _ _ _ _ c.loop-i.invariant (omega (arith, c.loop-i-test.true)) _ _ c.kind_at.ensures c.effect_of.ensures _ c.in-Ends.is in
    omega (arith, c.requires, low)

pub overflow_add-numbers : goal.overflow_add-numbers
overflow_add-numbers c = let h = cell c in omega arith

pub offset_bounds-numbers-from : goal.offset_bounds-numbers-from
offset_bounds-numbers-from c = let h = cell c in omega arith

pub bounds-numbers-from : goal.bounds-numbers-from
bounds-numbers-from c = omega (arith, cell c)

pub overflow_add-made : goal.overflow_add-made
overflow_add-made c = omega (arith, cell c)

pub returns-in-Faulty : goal.returns-in-Faulty
returns-in-Faulty c =
    reads_stop _ _ _ _ _ _ _ _ _ c.loop-i.invariant (omega (arith, c.loop-i-test.true)) _ _ c.kind_at.ensures c.effect_of.ensures _ _ _ c.in-Faulty.is

pub loop-i-preserved : goal.loop-i-preserved
loop-i-preserved c =
    let at : c.loop-i.i ≤ length c.args.text.now = omega (arith, c.loop-i-test.true) in
    elim c.match-effect_of.branch [
      | in-Becomes w ↦
          on_becomes _ _ _ _ _ _ _ _ _ c.loop-i.invariant at _ _ c.kind_at.ensures c.effect_of.ensures _ _ _ _ w.in-Becomes.is w.numbers-is w.made-is w.making-is
      | in-Ends w ↦
          on_ends _ _ _ _ _ _ _ _ _ c.loop-i.invariant at _ _ c.kind_at.ensures c.effect_of.ensures _ _ _ _ w.in-Ends.is c.requires w.numbers-is w.made-is w.making-is
    ]

pub returns : goal.returns
returns c = reads_end _ _ _ _ _ _ _ _ _ c.loop-i.invariant (omega (arith, c.loop-i-test.false))
