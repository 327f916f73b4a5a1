-- Inner vocabulary: what write and then read answer and leave, as one part of the path. Nobody has to believe it to believe an entry point's promise.
use Rattle.std.specs.Prelude.{◌≡◌, List, ◌∷◌, ℕ, ◌/◌, length}
use Rattle.chain.specs.Verdict.{◌then◌, Answer, answer, on_fine}
use Rattle.chain.specs.Chain.{counts}
use Rattle.chain.specs.declared.Step.{Step}
use Rattle.layout.specs.Layout.{edition1}
use Rattle.layout.specs.File.{columns_of, payslips_of, steps_of, file_of, write_rule, write_bytes, read_rule, read_steps, read_outputs}

-- read gets exactly the bytes that write counted
module _ (p : ℕ) (steps : List Step) (outputs : List ℕ) (bytes_lent : ℕ) where
  abbrev file : List ℕ
  file = file_of edition1 p steps outputs

  unfoldable pub dispatch_answer : ℕ → ℕ → Answer
  dispatch_answer pairs_lent outputs_lent =
      answer (write_rule edition1 p steps outputs bytes_lent then read_rule edition1 file pairs_lent outputs_lent)
      (columns_of file ∷ payslips_of file ∷ counts (steps_of edition1 file))

  unfoldable pub dispatch_steps : ℕ → List ℕ → List ℕ
  dispatch_steps outputs_lent old = on_fine (write_rule edition1 p steps outputs bytes_lent) (read_steps edition1 file outputs_lent old) old

  unfoldable pub dispatch_outputs : ℕ → List ℕ → List ℕ
  dispatch_outputs pairs_lent old = on_fine (write_rule edition1 p steps outputs bytes_lent) (read_outputs edition1 file pairs_lent old) old

-- the answer and the three slices, which were bytes, received and results before
pub record Dispatched (p : ℕ) (steps : List Step) (outputs bytes received results : List ℕ) (a : Answer) (bytes' received' results' : List ℕ) : Type 0 where
  pub answered : a ≡ dispatch_answer p steps outputs (length bytes) (length received / 2) (length results)
  pub bytes_left : bytes' ≡ write_bytes edition1 p steps outputs bytes
  pub steps_left_lem : received' ≡ dispatch_steps p steps outputs (length bytes) (length results) received
  pub outputs_left : results' ≡ dispatch_outputs p steps outputs (length bytes) (length received / 2) results
