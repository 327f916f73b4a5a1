-- Inner vocabulary: what judging a file asks of the lent scratch, and finds. Nobody has to believe it to believe an entry point's promise.
use Rattle.std.specs.Prelude.{◌≡◌, Result, List, ℕ, ◌≤◌}
use Rattle.chain.specs.Verdict.{fine}
use Rattle.chain.specs.Chain.{most_payslips}
use Rattle.layout.specs.Layout.{edition1}
use Rattle.layout.specs.File.{length_of}
use Rattle.choose.specs.Choose.{most_scratch, file_rule}
use Rattle.choose.specs.Answers.{verdict_of, count_of}
use Rattle.refusal.specs.declared.Refusal.{Refusal}

-- as many pairs, outputs and numbers as any file of edition 1 asks for
pub record Enough (pairs_lent outputs_lent numbers_lent : ℕ) : Type 0 where
  pub pairs_enough : edition1.limit ≤ pairs_lent
  pub outputs_enough : most_payslips ≤ outputs_lent
  pub numbers_enough : most_scratch ≤ numbers_lent

-- the verdict on a file, and its steps where it passes
pub record FileJudged (p q : ℕ) (amounts bytes : List ℕ) (r : Result ℕ Refusal) : Type 0 where
  pub verdict : verdict_of r ≡ file_rule p q amounts bytes
  pub count : file_rule p q amounts bytes ≡ fine → count_of r ≡ length_of edition1 bytes
