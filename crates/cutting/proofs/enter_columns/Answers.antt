-- There are as many columns as bits; the next column's amount is added behind what waits in the row.
use Rattle.std.proofs.Common.{arith, refl, ◌<◌}
use Rattle.sheet.proofs.Amounts.{amount_there}
use Rattle.groups.proofs.Measured.{grouped_at, grouped_few, grouped_long}
use Rattle.cutting.proofs.Rows.{behind_low, entered_end, entered_none, entered_on, row_fits, row_low}
use Rattle.cutting.proofs.enter_columns.Goals as goal

pub loop-col-init : goal.loop-col-init
loop-col-init c = entered_none _ _ _ _ _ refl refl refl c.requires.grouped.cuts.some

pub amount-requires : goal.amount-requires
amount-requires c =
    amount_there _ _ _ _ _ c.requires.inside (omega (arith, grouped_long c.requires.grouped)) c.requires.grouped.sheet.amounts_are

pub overflow_add-r : goal.overflow_add-r
overflow_add-r c =
    let few = c.requires.grouped.cuts.few in
    let low = behind_low c.amount.result c.loop-col.r.held (omega arith) (omega (arith, few, c.loop-col.invariant.short)) in
    omega (arith, row_low _ _ _ _ _ _ _ c.loop-col.invariant few, c.raised.ensures, low)

pub cut_parts-r-requires : goal.cut_parts-r-requires
cut_parts-r-requires c =
    let inside : c.loop-col.col < c.args.s.p = omega (arith, grouped_long c.requires.grouped) in
    let is = grouped_at c.requires.grouped c.loop-col.col inside in
    let few = grouped_few c.requires.grouped in
    let fits = row_fits _ _ _ _ _ _ _ c.loop-col.invariant _ inside is few c.requires.room c.loop-col.auto.cells in
    (c.requires.grouped.cuts.some, c.requires.grouped.cuts.few, fits)

pub loop-col-preserved : goal.loop-col-preserved
loop-col-preserved c =
    let inside : c.loop-col.col < c.args.s.p = omega (arith, grouped_long c.requires.grouped) in
    let is = grouped_at c.requires.grouped c.loop-col.col inside in
    entered_on _ _ _ _ _ _ _ c.loop-col.invariant _ _ _ inside c.requires.inside c.amount.ensures c.raised.ensures is _ _ _ refl refl refl
    c.cut_parts-r.ensures

pub returns : goal.returns
returns c =
    let long = grouped_long c.requires.grouped in
    entered_end _ _ _ _ _ _ _ c.loop-col.invariant (omega (arith, long)) (omega (arith, long))
