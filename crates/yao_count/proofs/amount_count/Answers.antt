-- The digits are at most 40 and each is below 256, so no sum is large.
use borrow.Author.Rules.{Fits-under}
use Rattle.yao_count.proofs.Counting.{next_fits, amount_fits, amount_end, amount_few}
use Rattle.yao_count.proofs.amount_count.Goals as goal

pub overflow_add-nonzero : goal.overflow_add-nonzero
overflow_add-nonzero c = Fits-under _ _ 64 (search next_fits) tt

pub overflow_add-nonzero-2 : goal.overflow_add-nonzero-2
overflow_add-nonzero-2 c = Fits-under _ _ 512 (search amount_fits) tt

pub returns : goal.returns
returns c = record { is = search amount_end; low = search amount_few }
