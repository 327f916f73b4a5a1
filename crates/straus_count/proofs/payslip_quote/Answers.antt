-- The squarings are below 32, since the lower digits are those of a number of 32 bits, and so are the other steps.
use Rattle.std.proofs.Common.{rules}
use borrow.Author.Rules.{Fits-under}
use Rattle.straus_count.proofs.Counting.{lower_told, lower_fits, lower_place, squarings_fit, signs_on, most_low, most_fits, most_told, sum_fits, cost_all, cost_few}
use Rattle.straus_count.proofs.payslip_quote.Goals as goal

pub overflow_mul-squarings : goal.overflow_mul-squarings
overflow_mul-squarings c = Fits-under _ _ 32 (search (squarings_fit, lower_fits)) tt

pub digit-requires : goal.digit-requires
digit-requires c = search (rules, lower_place, lower_fits)

pub overflow_add-count : goal.overflow_add-count
overflow_add-count c = Fits-under _ _ 64 (search (sum_fits, lower_fits)) tt

pub loop-j-preserved : goal.loop-j-preserved
loop-j-preserved c = search signs_on

pub overflow_add-result : goal.overflow_add-result
overflow_add-result c = Fits-under _ _ 64 (search (most_fits, lower_fits)) tt

pub returns : goal.returns
returns c =
    record {
      counted = record { is = search (cost_all, lower_told); low = search (cost_few, lower_fits) };
      ceiled = record { is = search (most_told, lower_told); low = search (most_low, lower_fits) };
    }
