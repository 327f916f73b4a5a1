-- The table and all payslips make up the quote.
use Rattle.digits.proofs.Range.{sum-after_end}
use Rattle.straus_count.proofs.Counting.{quote_all}
use Rattle.straus_count.proofs.quote.Goals as goal

pub returns : goal.returns
returns c = search (quote_all, sum-after_end)
