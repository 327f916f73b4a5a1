-- The squarings and all payslips make up the quote.
use Rattle.std.proofs.Common.{◌∙◌}
use Rattle.digits.proofs.Range.{sum-after_end}
use Rattle.yao.proofs.Measuring.{squarings-sum}
use Rattle.yao_count.proofs.Counting.{quote_all}
use Rattle.yao_count.proofs.chain_quote.Goals as goal

pub returns : goal.returns
returns c =
    let a = c.args in
    quote_all a.p a.q a.amounts.now a.k _ _ _
    (c.squaring_count-squarings.ensures.is ∙ squarings-sum a.p a.q a.amounts.now a.k _ c.requires.measured)
    (search sum-after_end) (search sum-after_end)
