-- An amount that is not 0 has the column's digits and 2^k less 3, which is small.
use Rattle.yao_count.proofs.Counting.{ceiling_few, ceiling_some}
use Rattle.yao_count.proofs.amount_ceiling.Goals as goal

pub returns-else-x-eq0 : goal.returns-else-x-eq0
returns-else-x-eq0 c = record { is = search ceiling_some; low = search ceiling_few }
