-- The columns' digits are those of their largest amounts, and everything is counted from them.
use Rattle.std.proofs.Common.{rules}
use Rattle.yao.proofs.Measuring.{columns_measured}
use Rattle.yao_count.proofs.quote.Goals as goal

pub chain_quote-requires : goal.chain_quote-requires
chain_quote-requires c =
    let asked = c.requires in
    record {
      ranges = asked.ranges;
      measured = columns_measured _ _ _ _ _ _ _ (search rules) (λ j. (c.type_inv.largest j).fits) asked.largest (search rules) c.measure_digits.ensures;
    }
