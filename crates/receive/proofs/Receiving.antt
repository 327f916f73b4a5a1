-- Where the check refuses nothing is run; where it passes, the run's answer and slices are those of both rules in a row.
use mathlib.Core.Path.{◌≡◌, refl, ap, ◌∙◌}
use mathlib.Core.List.{List}
use Prim.Native.Nat.{ℕ}
use lib.ListN.{length}
use Rattle.chain.specs.Verdict.{Verdict, fine, refused, Answer, done, refusal, answer}
use Rattle.chain.specs.Chain.{counts}
use Rattle.chain.specs.declared.Step.{Step}
use Rattle.chain.proofs.Rules.{stop, pass, answer_refused, kept, renewed}
use Rattle.chain.proofs.Told.{told}
use Rattle.verify.specs.Verify.{verify_rule, verify_answer, verify_scratch}
use Rattle.answers.specs.Answers.{counts_in}
use Rattle.answers.specs.declared.Counts.{Counts}
use Rattle.run.specs.Run.{run_answer, run_values, run_figures}
use Rattle.receive.specs.Inner.{receive_answer, receive_values, receive_figures, Received}

module _ (p : ℕ) (steps : List Step) (outputs amounts : List ℕ) (m : ℕ) (bases scratch values figures scratch' : List ℕ)
    (cleared : scratch' ≡ verify_scratch p steps outputs amounts scratch) where
  pub not_passed : (k s : ℕ) → refusal k s ≡ verify_answer p steps outputs amounts (length scratch)
      → Received p steps outputs amounts m bases scratch values figures (refusal k s) scratch' values figures
  unfolding receive_answer receive_values receive_figures verify_answer
  not_passed k s e =
      let v : refused k s ≡ verify_rule p steps outputs amounts (length scratch) = told _ _ _ e in
      record {
        answered = answer_refused _ _ k s (stop _ _ k s v);
        scratch_left = cleared;
        values_left = kept _ _ values k s v;
        figures_left_lem = kept _ _ figures k s v;
      }

  pub then_run : (c : Counts) → done (counts_in c) ≡ verify_answer p steps outputs amounts (length scratch) → (a : Answer) (values' figures' : List ℕ)
      → a ≡ run_answer p steps outputs m bases (length values) (length figures)
      → values' ≡ run_values p steps outputs m bases (length figures) values
      → figures' ≡ run_figures p steps outputs m bases (length values) figures
      → Received p steps outputs amounts m bases scratch values figures a scratch' values' figures'
  unfolding receive_answer receive_values receive_figures run_answer verify_answer
  then_run c e a values' figures' ran ev ef =
      let v : fine ≡ verify_rule p steps outputs amounts (length scratch) = told _ _ _ e in
      record {
        answered = ran ∙ ap (λ (x : Verdict). answer x (counts steps)) (pass _ _ _ v refl);
        scratch_left = cleared;
        values_left = renewed _ _ values values' v ev;
        figures_left_lem = renewed _ _ figures figures' v ef;
      }
