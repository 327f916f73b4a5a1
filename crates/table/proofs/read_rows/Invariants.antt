-- At each turn what all lines come to is what the lines left come to, after the amounts stored.
use Rattle.std.proofs.Common.{◌+◌, ◌-◌, ◌≤◌, length, drop}
use Rattle.lines.specs.Lines.{lines_of}
use Rattle.table.specs.Table.{rows_from}
use Rattle.table.proofs.Rows.{Rows}
use Rattle.table.proofs.read_rows.Given as goal

abbrev pub invariant-loop-at : goal.invariant-loop-at
invariant-loop-at l =
    record {
      at_low : l.at ≤ length l.text + 1;
      line_low : l.line ≤ l.at + 2;
      payslips_low : l.payslips ≤ l.at;
      rows : Rows l.by l.p l.text l.fn.amounts (rows_from l.by l.p (length l.fn.amounts) 0 0 l.first (lines_of (drop l.start l.text))) l.payslips l.filled l.line l.at l.amounts;
    }

abbrev pub decreases-loop-at : goal.decreases-loop-at
decreases-loop-at l = length l.text + 1 - l.at
