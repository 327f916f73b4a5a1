-- The whole path from sheet to figures: compile, write, read, check and run (Spec 7.3).
use Rattle.std.specs.Prelude.{List, [], ◌∷◌, ℕ, ◌/◌, length}
use Rattle.chain.specs.Verdict.{Verdict, ◌then◌, Answer, answer, on_fine}
use Rattle.chain.specs.Chain.{Chain}
use Rattle.verify.specs.Verify.{verify_rule, verify_scratch}
use Rattle.run.specs.Run.{run_rule, run_values, run_figures}
use Rattle.layout.specs.Layout.{edition1}
use Rattle.layout.specs.File.{columns_of, length_of, steps_of, outputs_of, file_of, write_rule, write_bytes, read_rule, read_steps, read_outputs}
use Rattle.quote.specs.ByMethod.{chain_of, count}
use Rattle.compile.specs.Compile.{compile_rule, compile_steps, compile_outputs}

-- the slices lent for results and scratch, steps in turn: those of compile, write, read, check and run
pub record Lent : Type 0 where
  pub steps : List ℕ
  pub outputs : List ℕ
  pub bytes : List ℕ
  pub steps_read : List ℕ
  pub outputs_read : List ℕ
  pub scratch : List ℕ
  pub values : List ℕ
  pub figures : List ℕ

abbrev pub lent : List ℕ → List ℕ → List ℕ → List ℕ → List ℕ → List ℕ → List ℕ → List ℕ → Lent
lent steps outputs bytes steps_read outputs_read scratch values figures =
    record {
      steps = steps;
      outputs = outputs;
      bytes = bytes;
      steps_read = steps_read;
      outputs_read = outputs_read;
      scratch = scratch;
      values = values;
      figures = figures;
    }

-- a sheet, a method and a parameter
module _ (p q : ℕ) (amounts : List ℕ) (method k : ℕ) where
  -- Spec 7.3: what compile made, which write gets
  abbrev pub compiled : Chain
  compiled = chain_of p q amounts method k

  -- Spec 7.3: the bytes that write counted, which read gets
  abbrev pub written : List ℕ
  written = file_of edition1 p compiled.steps compiled.outputs

  -- what each call finds, given what the calls before it left
  module _ (l : Lent) where
    abbrev pub compiles : Verdict
    compiles = compile_rule p q amounts method k (length l.steps / 2) (length l.outputs)

    abbrev pub writes : Verdict
    writes = write_rule edition1 p compiled.steps compiled.outputs (length l.bytes)

    abbrev pub reads : Verdict
    reads = read_rule edition1 written (length l.steps_read / 2) (length l.outputs_read)

    -- Spec 7.3: check and run get what read returned and made, and check the sheet
    abbrev pub checks : Verdict
    checks = verify_rule (columns_of written) (steps_of edition1 written) (outputs_of edition1 written) amounts (length l.scratch)

    -- the calls before the run
    abbrev pub before_run : Verdict
    before_run = compiles then writes then reads then checks

    -- a modulus and bases
    module _ (m : ℕ) (bases : List ℕ) where
      abbrev pub runs : Verdict
      runs = run_rule (columns_of written) (steps_of edition1 written) (outputs_of edition1 written) m bases (length l.values) (length l.figures)

      -- the first refusal of the five; or the numbers of steps that compile and read return, and the multiplications made
      unfoldable pub path_answer : Answer
      path_answer =
          answer (compiles then writes then reads then checks then runs)
          (count p q amounts method k ∷ length_of edition1 written ∷ length (steps_of edition1 written) ∷ [])

      -- what the slices are afterwards: those of a call that is not made stay as they were
      unfoldable pub path_leaves : Lent
      path_leaves =
          record {
            steps = compile_steps p q amounts method k (length l.outputs) l.steps;
            outputs = compile_outputs p q amounts method k (length l.steps / 2) l.outputs;
            bytes = on_fine compiles (write_bytes edition1 p compiled.steps compiled.outputs l.bytes) l.bytes;
            steps_read = on_fine (compiles then writes) (read_steps edition1 written (length l.outputs_read) l.steps_read) l.steps_read;
            outputs_read = on_fine (compiles then writes) (read_outputs edition1 written (length l.steps_read / 2) l.outputs_read) l.outputs_read;
            scratch =
                on_fine (compiles then writes then reads)
                (verify_scratch (columns_of written) (steps_of edition1 written) (outputs_of edition1 written) amounts l.scratch)
                l.scratch;
            values =
                on_fine before_run
                (run_values (columns_of written) (steps_of edition1 written) (outputs_of edition1 written) m bases (length l.figures) l.values)
                l.values;
            figures =
                on_fine before_run
                (run_figures (columns_of written) (steps_of edition1 written) (outputs_of edition1 written) m bases (length l.values) l.figures)
                l.figures;
          }
