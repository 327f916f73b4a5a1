-- Each return is one test of the definition, decided, or the reading of the line.
use Rattle.std.proofs.Common.{rules}
use Rattle.table.proofs.Rows.{row_judged}
use Rattle.table.proofs.read_content.Goals as goal

pub returns-then-payslips-eq-MOST_PAYSLIPS : goal.returns-then-payslips-eq-MOST_PAYSLIPS
returns-then-payslips-eq-MOST_PAYSLIPS c = search (rules, row_judged)

pub returns-then-fields-p : goal.returns-then-fields-p
returns-then-fields-p c = search (rules, row_judged)

pub returns-then-amounts-filled : goal.returns-then-amounts-filled
returns-then-amounts-filled c = search (rules, row_judged)

pub returns : goal.returns
returns c = search (rules, row_judged)
