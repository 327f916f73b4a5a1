-- After i turns the lines of the first i payslips stand in the text, none longer than the longest line.
use Rattle.std.proofs.Common.{◌+◌, ◌*◌, ◌≤◌}
use Rattle.decimal.specs.Inner.{Put}
use Rattle.listing.specs.Listing.{payslip_lines}
use Rattle.listing.specs.Inner.{amount_in, most_line}
use Rattle.listing.proofs.put_payslips.Given as goal

abbrev pub invariant-loop-i : goal.invariant-loop-i
invariant-loop-i l = (l.end ≤ l.at + most_line * l.i) × Put l.at (payslip_lines l.p (amount_in l.table) l.i) l.fn.text l.end l.text
