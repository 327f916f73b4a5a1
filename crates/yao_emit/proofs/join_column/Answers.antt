-- Two emitters one after the other: the column's sweep, then the product times its a.
use Rattle.yao_emit.proofs.Paying.{sweep_room, join_room, join_on}
use Rattle.yao_emit.proofs.join_column.Goals as goal

pub sweep_column-s-requires : goal.sweep_column-s-requires
sweep_column-s-requires c =
    let s = c.args in
    record { asked = c.requires.asked; room = sweep_room s.column s.steps.now s.m.progress s.m.value c.requires.room }

pub times-requires : goal.times-requires
times-requires c =
    let s = c.args in
    join_room s.column s.steps.now s.m.progress s.m.value c.requires.room _ _ _ _ c.sweep_column-s.ensures

pub returns : goal.returns
returns c =
    let s = c.args in
    join_on s.column s.steps.now s.m.progress s.m.value c.requires.room _ _ _ _ c.sweep_column-s.ensures _ _ _ c.times.ensures
