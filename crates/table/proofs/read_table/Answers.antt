-- The table is cut off, without lines, or what its first line makes of it.
use Rattle.std.proofs.Common.{length, sym, ◌∙◌, arith}
use lib.Seq.{length-take-le}
use borrow.Author.Tests.{eqb-true, eqb-false}
use Rattle.lines.proofs.Lines.{end_within, head_low}
use Rattle.table.proofs.Whole.{table_cut, table_none, table_headed}
use Rattle.table.proofs.read_table.Goals as goal

pub returns-then-is_cut : goal.returns-then-is_cut
returns-then-is_cut c = table_cut _ _ c.is_cut.ensures _ _ _ c.if-is_cut.true c.cut_text.ensures

pub returns-then-is_empty : goal.returns-then-is_empty
returns-then-is_empty c =
    table_none _ _ c.is_cut.ensures _ _ c.if-is_cut.false (eqb-true (length c.args.text.now) 0 (sym c.is_empty.ensures ∙ c.if-is_empty.true))

pub slice_bounds-first_line-end : goal.slice_bounds-first_line-end
slice_bounds-first_line-end c =
    let w = end_within c.args.text.now 0 c.line_end-end.result (omega arith) c.line_end-end.ensures in
    sym (length-take-le _ _ w.1)

pub read_headed-requires : goal.read_headed-requires
read_headed-requires c =
    let w = end_within c.args.text.now 0 c.line_end-end.result (omega arith) c.line_end-end.ensures in
    let low = head_low _ _ c.first_line.ensures in
    let long = length-take-le c.line_end-end.result c.args.text.now w.1 in
    (w.1, omega arith)

pub returns : goal.returns
returns c =
    let some = eqb-false (length c.args.text.now) 0 (sym c.is_empty.ensures ∙ c.if-is_empty.false) in
    table_headed _ _ c.is_cut.ensures _ _ c.if-is_cut.false _ _ _ _ some c.line_end-end.ensures c.first_line.ensures c.read_headed.ensures
