-- Each rule of the path finds nothing, by `Promised`, so the whole answer and the slices are those of the last call, over the chain read back.
use mathlib.Core.Path.{◌≡◌, refl, sym, ap, ◌∙◌}
use mathlib.Core.List.{List, [], ◌∷◌}
use Prim.Native.Nat.{ℕ, ◌≤◌, ◌<◌}
use native.Mathlib.Omega.{arith}
use lib.ListN.{length, get_or}
use Rattle.chain.specs.Verdict.{Verdict, fine, ◌then◌, done}
use Rattle.chain.specs.Written.{over}
use Rattle.chain.specs.Chain.{Chain, most_amount, pick, counts}
use Rattle.chain.specs.declared.Step.{Step}
use Rattle.chain.proofs.Rules.{pass, answer_done, renewed}
use Rattle.chain.proofs.Squarings.{adds_up}
use Rattle.chain.proofs.Written.{over_get_d}
use Rattle.chain.proofs.Picked.{length-pick}
use Rattle.residue.specs.Residue.{figure}
use Rattle.verify.specs.Verify.{verify_rule, verify_answer}
use Rattle.run.specs.Run.{residues, run_rule, run_answer, run_figures}
use Rattle.layout.specs.Layout.{edition1}
use Rattle.layout.specs.File.{length_of, steps_of, columns_of, payslips_of, outputs_of, read_answer}
use Rattle.quote.specs.ByMethod.{count, ceiling}
use Rattle.compile.specs.Compile.{accepted_rule, compile_answer}
use Rattle.path.specs.Path.{Lent, compiled, written, compiles, writes, reads, checks, before_run, runs, path_answer, path_leaves}
use Rattle.path.specs.Demand3.{LongEnough, Receivable, CountsAlike, Demand3}
use Rattle.path.proofs.Promised.{Promised, promised}

module _ (p q : ℕ) (amounts : List ℕ) (method k : ℕ) (low : (j : ℕ) → get_or amounts j 0 ≤ most_amount) (l : Lent) where
  abbrev n : ℕ
  n = count p q amounts method k

  abbrev chain : Chain
  chain = compiled p q amounts method k

  abbrev file : List ℕ
  file = written p q amounts method k

  -- a chain as it was read, where the chain compiled was meant
  as_compiled : Promised p q amounts method k chain n (ceiling p q amounts method k) → (v : Verdict) (f : ℕ → List Step → List ℕ → Verdict)
      → f p chain.steps chain.outputs ≡ v → f (columns_of file) (steps_of edition1 file) (outputs_of edition1 file) ≡ v
  as_compiled ok v f e = rw (ok.read_back.columns, ok.read_back.steps_same, ok.read_back.outputs_same) e

  module _ (accepted : accepted_rule p q amounts method k ≡ fine) (long : LongEnough p q n l) where
    ok : Promised p q amounts method k chain n (ceiling p q amounts method k)
    ok = promised p q amounts method k low accepted

    checks_too : fine ≡ checks p q amounts method k l
    checks_too = sym (as_compiled ok fine (λ a b c. verify_rule a b c amounts (length l.scratch)) (ok.passes _ long.scratch))

    -- whatever comes after three calls that find nothing
    three_calls : (r last : Verdict) → r ≡ last
        → r ≡ (compiles p q amounts method k l then writes p q amounts method k l then reads p q amounts method k l then last)
    three_calls r last e =
        pass _ _ r (sym (ok.compiles _ _ long.steps long.outputs))
        (pass _ _ r (sym (ok.writes _ long.bytes)) (pass _ _ r (sym (ok.reads _ _ long.steps_read long.outputs_read)) e))

    all_checked : fine ≡ before_run p q amounts method k l
    all_checked = three_calls fine _ checks_too

    module _ (m : ℕ) (bases : List ℕ) (receivable : Receivable p m bases) where
      runs_too : fine ≡ runs p q amounts method k l m bases
      runs_too =
          sym
          (as_compiled ok fine (λ a b c. run_rule a b c m bases (length l.values) (length l.figures))
          (ok.runs m bases receivable.modulus receivable.one_each receivable.below _ _ long.values long.figures))

      all_counted : path_answer p q amounts method k l m bases ≡ done (n ∷ n ∷ n ∷ [])
      unfolding path_answer
      all_counted =
          sym
          (answer_done _ (n ∷ length_of edition1 file ∷ length (steps_of edition1 file) ∷ [])
          (three_calls fine _ (pass _ _ fine checks_too runs_too)))
          ∙ ap (λ (x : ℕ). done (n ∷ x ∷ length (steps_of edition1 file) ∷ [])) (ok.read_back.long ∙ ok.multiplications)
          ∙ ap (λ (x : ℕ). done (n ∷ n ∷ x ∷ [])) (ap length ok.read_back.steps_same ∙ ok.multiplications)

      -- each call answers its rule's verdict, and the counts of the chain compiled
      all_alike : CountsAlike p q amounts method k m bases l
      unfolding compile_answer read_answer verify_answer run_answer
      all_alike =
          let same = ap counts ok.read_back.steps_same in
          record {
            compile = sym (answer_done _ _ (sym (ok.compiles _ _ long.steps long.outputs)));
            read =
                sym (answer_done _ _ (sym (ok.reads _ _ long.steps_read long.outputs_read)))
                ∙ ap (λ (x : ℕ). done (x ∷ payslips_of file ∷ counts (steps_of edition1 file))) ok.read_back.columns
                ∙ ap (λ (x : ℕ). done (p ∷ x ∷ counts (steps_of edition1 file))) (ok.read_back.payslips ∙ ok.payslips)
                ∙ ap (λ (x : List ℕ). done (p ∷ q ∷ x)) same;
            check = sym (answer_done _ _ checks_too) ∙ ap done same;
            run = sym (answer_done _ _ runs_too) ∙ ap done same;
            n = ok.multiplications;
            adds_up = adds_up chain.steps ∙ ok.multiplications;
          }

      all_figured : (i : ℕ) → i < q → get_or (path_leaves p q amounts method k l m bases).figures i 0 ≡ figure p m bases amounts i
      unfolding path_leaves run_figures
      all_figured i h =
          let vs : List ℕ = pick (residues m bases (steps_of edition1 file)) (outputs_of edition1 file) in
          let same : vs ≡ pick (residues m bases chain.steps) chain.outputs = rw (ok.read_back.steps_same, ok.read_back.outputs_same) in
          let count_same : length vs ≡ q = ap length same ∙ length-pick (residues m bases chain.steps) chain.outputs ∙ ok.payslips in
          let new : List ℕ = over vs l.figures in
          let left = sym (renewed _ _ l.figures new all_checked (renewed _ _ l.figures new runs_too refl)) in
          ap (λ (x : List ℕ). get_or x i 0) left
          ∙ over_get_d vs l.figures i (omega arith)
          ∙ ap (λ (x : List ℕ). get_or x i 0) same
          ∙ ok.figures m bases receivable.modulus receivable.one_each receivable.below i h

  pub demand_3 : (m : ℕ) (bases : List ℕ)
      → Demand3 p q amounts method k m bases l (path_answer p q amounts method k l m bases) (path_leaves p q amounts method k l m bases)
  demand_3 m bases =
      record {
        checked = λ accepted long. sym (all_checked accepted long);
        counted = λ accepted long receivable. all_counted accepted long m bases receivable;
        alike = λ accepted long receivable. all_alike accepted long m bases receivable;
        limited = λ accepted. (promised p q amounts method k low accepted).limited;
        figured = λ accepted long receivable. all_figured accepted long m bases receivable;
      }
