-- A line read leaves the lines after it; one that is turned down ends the reading, as the text's end does.
use Rattle.std.proofs.Common.{arith, refl, rules}
use Rattle.lines.proofs.Lines.{end_within}
use Rattle.table.proofs.Rows.{rows_start, rows_end_lem, rows_room, rows_on, rows_stop, end_none, end_some}
use Rattle.table.proofs.read_rows.Goals as goal

pub loop-at-init : goal.loop-at-init
loop-at-init c = record { at_low = omega arith; line_low = omega arith; payslips_low = omega arith; rows = rows_start _ _ _ _ _ _ _ refl }

pub slice_bounds-read_row-end : goal.slice_bounds-read_row-end
slice_bounds-read_row-end c =
    (end_within c.args.text.now c.loop-at.at c.line_end-end.result (omega (arith, c.loop-at-test.true)) c.line_end-end.ensures).1

pub overflow_add-filled : goal.overflow_add-filled
overflow_add-filled c =
    let h =
    rows_room _ _ _ _ _ _ _ _ _ _ c.loop-at.invariant.rows _ _ _ c.loop-at-test.true c.line_end-end.ensures c.read_row.ensures _ c.in-Ok.is in
    search rules

pub returns-in-Err : goal.returns-in-Err
returns-in-Err c =
    rows_stop _ _ _ _ _ _ _ _ _ _ c.loop-at.invariant.rows _ _ _ c.loop-at-test.true c.line_end-end.ensures c.read_row.ensures _ c.in-Err.is

pub loop-at-preserved : goal.loop-at-preserved
loop-at-preserved c =
    let w = end_within c.args.text.now c.loop-at.at c.line_end-end.result (omega (arith, c.loop-at-test.true)) c.line_end-end.ensures in
    record {
      at_low = omega (arith, w.1);
      line_low = omega (arith, w.0);
      payslips_low = omega (arith, w.0);
      rows =
          rows_on _ _ _ _ _ _ _ _ _ _ c.loop-at.invariant.rows _ _ _ c.loop-at-test.true c.line_end-end.ensures c.read_row.ensures _ c.in-Ok.is;
    }

pub returns-then-payslips-eq0 : goal.returns-then-payslips-eq0
returns-then-payslips-eq0 c =
    rows_end_lem _ _ _ _ _ _ _ _ _ _ c.loop-at.invariant.rows _ c.loop-at-test.false (end_none _ _ _ c.if-payslips-eq0.true)

pub returns : goal.returns
returns c = rows_end_lem _ _ _ _ _ _ _ _ _ _ c.loop-at.invariant.rows _ c.loop-at-test.false (end_some _ _ _ c.if-payslips-eq0.false)
