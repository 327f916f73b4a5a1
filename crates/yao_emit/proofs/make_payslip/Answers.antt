-- Each column is within reach, and its products have room because the whole payslip has it.
use Rattle.std.proofs.Common.{◌<◌, rules}
use Rattle.products.specs.Inner.{steps_in}
use Rattle.products.proofs.Emitted.{emitted_own}
use Rattle.yao.proofs.Measuring.{column_is, column_few}
use Rattle.yao_emit.proofs.Paying.{first_on, reaches, column_room, column_on}
use Rattle.yao_emit.proofs.make_payslip.Goals as goal

pub loop-c-init : goal.loop-c-init
loop-c-init c = record { after = search rules; low = search rules; paid = search emitted_own }

pub join_column-r-requires : goal.join_column-r-requires
join_column-r-requires c =
    let a = c.args in
    let chain = c.requires.asked.chain in
    let less : c.loop-c.c < a.p = search rules in
    let is = column_is a.p a.q a.amounts.now a.k a.columns.now chain.measured c.loop-c.c less in
    record {
      asked = reaches _ chain.ranges (column_few a.p a.q a.amounts.now a.k a.columns.now chain.measured c.loop-c.c less) less c.loop-c.invariant.low;
      room =
          column_room a.p a.q a.amounts.now a.k a.i (steps_in a.steps.now a.progress.steps) a.steps.now _ _ _ c.loop-c.c c.loop-c.first _
          c.amount.result c.loop-c.invariant.paid c.loop-c.invariant.after is c.amount.ensures _ c.requires.room less;
    }

pub loop-c-preserved : goal.loop-c-preserved
loop-c-preserved c =
    let a = c.args in
    let less : c.loop-c.c < a.p = search rules in
    let is = column_is a.p a.q a.amounts.now a.k a.columns.now c.requires.asked.chain.measured c.loop-c.c less in
    record {
      after = search first_on;
      low = search rules;
      paid =
          column_on a.p a.q a.amounts.now a.k a.i (steps_in a.steps.now a.progress.steps) a.steps.now _ _ _ c.loop-c.c c.loop-c.first _
          c.amount.result c.loop-c.invariant.paid c.loop-c.invariant.after is c.amount.ensures _ _ _ c.join_column-r.ensures;
    }
