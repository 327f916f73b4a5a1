-- A sheet has few fields.
use Rattle.std.proofs.Common.{arith}
use Rattle.chain.proofs.Sizes.{columns_low, payslips_low}
use Rattle.sheet.proofs.Amounts.{product_low}
use Rattle.unpacking.proofs.judge_readable.Goals as goal

pub overflow_mul-m : goal.overflow_mul-m
overflow_mul-m c =
    let sizes = c.in_ok-judge_sizes.ensures in
    omega (arith, product_low _ _ (columns_low _ _ sizes) (payslips_low _ _ sizes))

pub overflow_mul-m-2 : goal.overflow_mul-m-2
overflow_mul-m-2 c =
    let sizes = c.in_ok-judge_sizes.ensures in
    omega (arith, product_low _ _ (columns_low _ _ sizes) (payslips_low _ _ sizes))
