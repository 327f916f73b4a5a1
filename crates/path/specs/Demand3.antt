-- Demand 3 (docs/DEMANDS.md).
use Rattle.std.specs.Prelude.{◌≡◌, List, [], ◌∷◌, ℕ, ◌+◌, ◌/◌, ◌≤◌, ◌<◌, length, get_or}
use Rattle.chain.specs.Verdict.{fine, Answer, done}
use Rattle.chain.specs.Chain.{squarings_of, products_of, counts}
use Rattle.chain.specs.declared.Step.{Step}
use Rattle.residue.specs.Residue.{figure}
use Rattle.verify.specs.Verify.{scratch_size, verify_answer}
use Rattle.run.specs.Run.{run_answer}
use Rattle.layout.specs.Layout.{edition1}
use Rattle.layout.specs.File.{byte_count, columns_of, steps_of, outputs_of, read_answer}
use Rattle.quote.specs.ByMethod.{count, ceiling}
use Rattle.compile.specs.Compile.{accepted_rule, compile_answer}
use Rattle.path.specs.Path.{Lent, compiled, written, before_run}

-- Spec 10.4: every slice has a cell for what its call puts there, for p columns, q payslips and n steps
pub record LongEnough (p q n : ℕ) (l : Lent) : Type 0 where
  pub steps : n ≤ length l.steps / 2
  pub outputs : q ≤ length l.outputs
  pub bytes : byte_count edition1 p q n ≤ length l.bytes
  pub steps_read : n ≤ length l.steps_read / 2
  pub outputs_read : q ≤ length l.outputs_read
  pub scratch : scratch_size p n ≤ length l.scratch
  pub values : p + n < length l.values
  pub figures : q ≤ length l.figures

-- Spec 6: a modulus that is not 0, and a base below it for each column
pub record Receivable (p m : ℕ) (bases : List ℕ) : Type 0 where
  pub modulus : 1 ≤ m
  pub one_each : length bases ≡ p
  pub below : (c : ℕ) → c < p → get_or bases c 0 < m

-- Req 05: the numbers that the calls answer are those of the chain compiled, one and the same in each of them, and its n is the method's count
module _ (p q : ℕ) (amounts : List ℕ) (method k : ℕ) where
  abbrev steps : List Step
  steps = (compiled p q amounts method k).steps

  abbrev file : List ℕ
  file = written p q amounts method k

  pub record CountsAlike (m : ℕ) (bases : List ℕ) (l : Lent) : Type 0 where
    pub compile : compile_answer p q amounts method k (length l.steps / 2) (length l.outputs) ≡ done (counts steps)
    pub read : read_answer edition1 file (length l.steps_read / 2) (length l.outputs_read) ≡ done (p ∷ q ∷ counts steps)
    pub check : verify_answer (columns_of file) (steps_of edition1 file) (outputs_of edition1 file) amounts (length l.scratch) ≡ done (counts steps)
    pub run : run_answer (columns_of file) (steps_of edition1 file) (outputs_of edition1 file) m bases (length l.values) (length l.figures)
        ≡ done (counts steps)
    pub n : length steps ≡ count p q amounts method k
    pub adds_up : squarings_of steps + products_of steps ≡ count p q amounts method k

-- what is asked of the five calls: they answered a, and left the slices as in after, which were as in l before, whatever they held
pub record Demand3 (p q : ℕ) (amounts : List ℕ) (method k m : ℕ) (bases : List ℕ) (l : Lent) (a : Answer) (after : Lent) : Type 0 where
  -- nothing is refused before the run
  pub checked : accepted_rule p q amounts method k ≡ fine → LongEnough p q (count p q amounts method k) l
      → before_run p q amounts method k l ≡ fine
  -- compile's steps, read's steps and the multiplications made are each the method's count
  pub counted : accepted_rule p q amounts method k ≡ fine → LongEnough p q (count p q amounts method k) l → Receivable p m bases
      → a ≡ done (count p q amounts method k ∷ count p q amounts method k ∷ count p q amounts method k ∷ [])
  -- and with it squarings and other products are the same in every call
  pub alike : accepted_rule p q amounts method k ≡ fine → LongEnough p q (count p q amounts method k) l → Receivable p m bases
      → CountsAlike p q amounts method k m bases l
  -- which is at most its ceiling
  pub limited : accepted_rule p q amounts method k ≡ fine → count p q amounts method k ≤ ceiling p q amounts method k
  -- each payslip's figure is the product of powers that Spec 1.3 asks for
  pub figured : accepted_rule p q amounts method k ≡ fine → LongEnough p q (count p q amounts method k) l → Receivable p m bases
      → (i : ℕ) → i < q → get_or after.figures i 0 ≡ figure p m bases amounts i
