-- One law for each return: the calls made so far have told their verdicts, and the slices of the calls not made stay as they were.
use mathlib.Core.Path.{◌≡◌, refl, sym, ap, ◌∙◌}
use mathlib.Core.List.{List, [], ◌∷◌}
use Prim.Native.Nat.{ℕ, ◌/◌, ◌≤◌}
use lib.ListN.{length, get_or}
use Rattle.chain.specs.Verdict.{Verdict, fine, refused, ◌then◌, Answer, done, refusal, on_fine}
use Rattle.chain.specs.Chain.{Chain, most_amount}
use Rattle.chain.specs.Chain as spec
use Rattle.chain.specs.declared.Step.{Step}
use Rattle.chain.proofs.Rules.{stop, pass, then_fine, then_assoc, answer_refused, answer_done, kept, renewed}
use Rattle.chain.proofs.Told.{verdict_in, told, told_values_lem}
use Rattle.answers.specs.Answers.{counts_in}
use Rattle.answers.specs.declared.Counts.{Counts}
use Rattle.layout.specs.Layout.{edition1}
use Rattle.layout.specs.File.{columns_of, length_of, steps_of, outputs_of, write_bytes, read_answer}
use Rattle.reading.proofs.Told.{ChainTaken, taken}
use Rattle.quote.specs.ByMethod.{count}
use Rattle.compile.specs.Compile.{compile_steps, compile_outputs}
use Rattle.dispatch.specs.Inner.{dispatch_answer, dispatch_steps, dispatch_outputs, Dispatched}
use Rattle.dispatch.proofs.Dispatching.{after_answer}
use Rattle.receive.specs.Inner.{receive_answer, receive_values, receive_figures, Received}
use Rattle.path.specs.Path.{Lent, lent, compiled, written, compiles, writes, reads, checks, runs, path_answer, path_leaves}
use Rattle.path.specs.Demand3.{Demand3}
use Rattle.path.proofs.Demand3.{demand_3}

-- the slices are those of another list of eight
same_lent : {a b c d e f g h a' b' c' d' e' f' g' h' : List ℕ}
    → a ≡ a' → b ≡ b' → c ≡ c' → d ≡ d' → e ≡ e' → f ≡ f' → g ≡ g' → h ≡ h' → lent a b c d e f g h ≡ lent a' b' c' d' e' f' g' h'
same_lent ea eb ec ed ee ef eg eh = rw (ea, eb, ec, ed, ee, ef, eg, eh)

-- a slice that a call leaves by its verdict, which is another's too
by_verdict : (v w : Verdict) (new old t : List ℕ) → v ≡ w → t ≡ on_fine v new old → t ≡ on_fine w new old
by_verdict v w new old t e f = f ∙ ap (λ (x : Verdict). on_fine x new old) e

module _ (p q : ℕ) (amounts : List ℕ) (method k : ℕ) (low : (j : ℕ) → get_or amounts j 0 ≤ most_amount) (l : Lent) (m : ℕ) (bases : List ℕ) where
  -- what the function promises
  abbrev Fulfilled : Answer → Lent → Type 0
  Fulfilled a after =
      (a ≡ path_answer p q amounts method k l m bases)
      × ((after ≡ path_leaves p q amounts method k l m bases) × Demand3 p q amounts method k m bases l a after)

  fulfilled : (a : Answer) (after : Lent) → a ≡ path_answer p q amounts method k l m bases → after ≡ path_leaves p q amounts method k l m bases
      → Fulfilled a after
  fulfilled a after e f = (e, (f, rw (e, f) (demand_3 p q amounts method k low l m bases)))

  abbrev chain : Chain
  chain = compiled p q amounts method k

  abbrev file : List ℕ
  file = written p q amounts method k

  -- the verdicts of the five calls
  abbrev compiling : Verdict
  compiling = compiles p q amounts method k l

  abbrev writing : Verdict
  writing = writes p q amounts method k l

  abbrev file_read : Verdict
  file_read = reads p q amounts method k l

  abbrev checking : Verdict
  checking = checks p q amounts method k l

  abbrev ran_last : Verdict
  ran_last = runs p q amounts method k l m bases

  module _ (steps' outputs' : List ℕ) (es : steps' ≡ compile_steps p q amounts method k (length l.outputs) l.steps)
      (eo : outputs' ≡ compile_outputs p q amounts method k (length l.steps / 2) l.outputs) where
    pub not_compiled : (n s : ℕ) → refused n s ≡ compiles p q amounts method k l
        → Fulfilled (refusal n s) (lent steps' outputs' l.bytes l.steps_read l.outputs_read l.scratch l.values l.figures)
    unfolding path_answer path_leaves
    not_compiled n s v =
        fulfilled _ _ (answer_refused _ _ n s (stop _ _ n s v))
        (same_lent es eo (kept _ _ l.bytes n s v) (kept _ _ l.steps_read n s (stop _ _ n s v)) (kept _ _ l.outputs_read n s (stop _ _ n s v))
        (kept _ _ l.scratch n s (stop _ _ n s v))
        (kept _ _ l.values n s (stop _ _ n s v))
        (kept _ _ l.figures n s (stop _ _ n s v)))

    -- compile found nothing, and s and o are the chain that it filled
    module _ (v : fine ≡ compiles p q amounts method k l) (s : List Step) (o : List ℕ) (s-is : s ≡ (compiled p q amounts method k).steps)
        (o_is : o ≡ (compiled p q amounts method k).outputs) (r : Answer) (bytes' steps_read' outputs_read' : List ℕ)
        (dispatched : Dispatched p s o l.bytes l.steps_read l.outputs_read r bytes' steps_read' outputs_read') where
      sent : Dispatched p chain.steps chain.outputs l.bytes l.steps_read l.outputs_read r bytes' steps_read' outputs_read'
      sent = rw (s-is, o_is) at dispatched

      bytes_left : bytes' ≡ on_fine compiling (write_bytes edition1 p chain.steps chain.outputs l.bytes) l.bytes
      bytes_left = renewed _ _ l.bytes bytes' v sent.bytes_left

      found : verdict_in r ≡ (writing then file_read)
      unfolding dispatch_answer
      found = told _ _ _ sent.answered

      pub not_dispatched : (n c : ℕ) → r ≡ refusal n c
          → Fulfilled (refusal n c) (lent steps' outputs' bytes' steps_read' outputs_read' l.scratch l.values l.figures)
      unfolding path_answer path_leaves dispatch_steps dispatch_outputs
      not_dispatched n c e =
          let d : refused n c ≡ (writing then file_read) = sym (ap verdict_in e) ∙ found in
          let later : (x : Verdict) → refused n c ≡ (compiling then writing then file_read then x) = λ x. pass _ _ _ v (stop _ x n c d ∙ then_assoc _ _ x) in
          fulfilled _ _ (answer_refused _ _ n c (later _))
          (same_lent es eo bytes_left (by_verdict _ _ _ _ _ (pass _ _ _ v refl) sent.steps_left_lem)
          (by_verdict _ _ _ _ _ (pass _ _ _ v refl) sent.outputs_left)
          (kept _ _ l.scratch n c (pass _ _ _ v d))
          (kept _ _ l.values n c (later _))
          (kept _ _ l.figures n c (later _)))

      module _ (columns payslips : ℕ) (read_counts : Counts) (is : r ≡ done (columns ∷ payslips ∷ counts_in read_counts)) where
        both : fine ≡ (writing then file_read)
        both = sym (ap verdict_in is) ∙ found

        wrote : fine ≡ writing
        wrote = sym (then_fine _ _ (sym both)).0

        was_read : fine ≡ file_read
        was_read = sym (then_fine _ _ (sym both)).1

        -- what reading the file would have answered and left by itself
        pub read_alone : ChainTaken edition1 file steps_read' outputs_read' columns payslips read_counts.steps
        unfolding dispatch_answer dispatch_steps dispatch_outputs read_answer
        read_alone =
            taken edition1 file l.steps_read l.outputs_read columns payslips read_counts (sym is ∙ sent.answered ∙ sym (after_answer _ _ _ wrote))
            steps_read' outputs_read'
            (sent.steps_left_lem ∙ sym (renewed _ _ l.steps_read _ wrote refl))
            (sent.outputs_left ∙ sym (renewed _ _ l.outputs_read _ wrote refl))

        -- after the calls that found nothing
        three_calls : (x y : Verdict) → x ≡ y → x ≡ (compiling then writing then file_read then y)
        three_calls x y e = pass _ _ x v (pass _ _ x wrote (pass _ _ x was_read e))

        -- s' and o' are the chain that read filled
        module _ (compiled' : ℕ) (counted : compiled' ≡ count p q amounts method k) (s' : List Step) (o' : List ℕ) (p-is : columns ≡ columns_of file)
            (s-is' : s' ≡ steps_of edition1 file) (o-is' : o' ≡ outputs_of edition1 file) (a : Answer) (scratch' values' figures' : List ℕ)
            (received : Received columns s' o' amounts m bases l.scratch l.values l.figures a scratch' values' figures') where
          got : Received (columns_of file) (steps_of edition1 file) (outputs_of edition1 file) amounts m bases l.scratch l.values l.figures a
              scratch' values' figures'
          got = rw (p-is, s-is', o-is') at received

          last_two : verdict_in a ≡ (checking then ran_last)
          unfolding receive_answer
          last_two = told _ _ _ got.answered

          all_left : lent steps' outputs' bytes' steps_read' outputs_read' scratch' values' figures' ≡ path_leaves p q amounts method k l m bases
          unfolding path_leaves dispatch_steps dispatch_outputs receive_values receive_figures
          all_left =
              same_lent es eo bytes_left (by_verdict _ _ _ _ _ (pass _ _ _ v refl) sent.steps_left_lem)
              (by_verdict _ _ _ _ _ (pass _ _ _ v refl) sent.outputs_left)
              (renewed _ _ l.scratch scratch' (pass _ _ _ v both) got.scratch_left)
              (by_verdict _ _ _ _ _ (three_calls _ _ refl) got.values_left)
              (by_verdict _ _ _ _ _ (three_calls _ _ refl) got.figures_left_lem)

          pub not_received : (number place : ℕ) → a ≡ refusal number place
              → Fulfilled (refusal number place) (lent steps' outputs' bytes' steps_read' outputs_read' scratch' values' figures')
          unfolding path_answer
          not_received number place e =
              fulfilled _ _
              (answer_refused _ _ number place (three_calls _ _ (sym (ap verdict_in e) ∙ last_two)))
              all_left

          pub all_done : (made : Counts) → a ≡ done (counts_in made)
              → Fulfilled (done (compiled' ∷ read_counts.steps ∷ made.steps ∷ [])) (lent steps' outputs' bytes' steps_read' outputs_read' scratch' values' figures')
          unfolding path_answer receive_answer spec.counts
          all_done made e =
              let long : read_counts.steps ≡ length_of edition1 file = read_alone.long in
              let told-made = told_values_lem _ _ _ (sym e ∙ got.answered) in
              let said : made.steps ≡ length (steps_of edition1 file) = ap (λ (x : List ℕ). get_or x 0 0) told-made in
              fulfilled _ _
              (rw (counted, long, said) (answer_done _ _ (three_calls _ _ (sym (ap verdict_in e) ∙ last_two))))
              all_left
