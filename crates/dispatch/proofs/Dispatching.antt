-- Where write refuses nothing else is touched; where it does not, the bytes counted are the chain's file, so read answers of that file.
use mathlib.Core.Path.{◌≡◌, refl, ap, ◌∙◌}
use mathlib.Core.List.{List, [], ◌∷◌}
use Prim.Native.Nat.{ℕ, ◌/◌}
use lib.ListN.{length, take}
use Rattle.chain.specs.Verdict.{Verdict, fine, ◌then◌, Answer, done, refusal, answer}
use Rattle.chain.specs.declared.Step.{Step}
use Rattle.chain.proofs.Rules.{stop, pass, answer_refused, kept, renewed}
use Rattle.layout.specs.Layout.{edition1}
use Rattle.layout.specs.File.{file_of, write_answer, write_bytes, read_answer, read_steps, read_outputs}
use Rattle.writing.proofs.Told.{write_stops, write_passes, write_front}
use Rattle.dispatch.specs.Inner.{dispatch_answer, dispatch_steps, dispatch_outputs, Dispatched}

-- the answer of a call after one that found nothing
pub after_answer : (a b : Verdict) (vs : List ℕ) → fine ≡ a → answer b vs ≡ answer (a then b) vs
after_answer a b vs e = ap (λ (v : Verdict). answer v vs) (pass a b b e refl)

module _ (p : ℕ) (steps : List Step) (outputs bytes received results bytes' : List ℕ)
    (wrote : bytes' ≡ write_bytes edition1 p steps outputs bytes) where
  pub not_written : (k s : ℕ) → refusal k s ≡ write_answer edition1 p steps outputs (length bytes) → Dispatched p steps outputs bytes received results (refusal k s) bytes' received results
  unfolding dispatch_answer dispatch_steps dispatch_outputs
  not_written k s e =
      let v = write_stops edition1 p steps outputs bytes k s e in
      record {
        answered = answer_refused _ _ k s (stop _ _ k s v);
        bytes_left = wrote;
        steps_left_lem = kept _ _ received k s v;
        outputs_left = kept _ _ results k s v;
      }

  pub then_read : (n : ℕ) → done (n ∷ []) ≡ write_answer edition1 p steps outputs (length bytes) → (a : Answer) (received' results' : List ℕ)
      → a ≡ read_answer edition1 (take n bytes') (length received / 2) (length results)
      → received' ≡ read_steps edition1 (take n bytes') (length results) received
      → results' ≡ read_outputs edition1 (take n bytes') (length received / 2) results
      → Dispatched p steps outputs bytes received results a bytes' received' results'
  unfolding dispatch_answer dispatch_steps dispatch_outputs read_answer
  then_read n e a received' results' read es eo =
      let v = write_passes edition1 p steps outputs bytes n e in
      let f : take n bytes' ≡ file_of edition1 p steps outputs = write_front edition1 p steps outputs bytes n e bytes' wrote in
      record {
        answered = (read ∙ ap (λ (b : List ℕ). read_answer edition1 b (length received / 2) (length results)) f) ∙ after_answer _ _ _ v;
        bytes_left = wrote;
        steps_left_lem = renewed _ _ received received' v (es ∙ ap (λ (b : List ℕ). read_steps edition1 b (length results) received) f);
        outputs_left = renewed _ _ results results' v (eo ∙ ap (λ (b : List ℕ). read_outputs edition1 b (length received / 2) results) f);
      }
