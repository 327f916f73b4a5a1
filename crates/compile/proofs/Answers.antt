-- Each way through compile gives the answer of its rule: what was judged first is passed on, and the slices are as before or hold the chain.
use mathlib.Core.Path.{◌≡◌, ap, ◌∙◌}
use mathlib.Core.List.{List, [], ◌∷◌}
use mathlib.Core.Logic.{◌⊎◌, inl, inr}
use Prim.Native.Nat.{ℕ, ◌-◌, ◌/◌, ◌≤◌, ◌<◌}
use native.Mathlib.Omega.{arith}
use lib.ListN.{length, get_or}
use Rattle.chain.specs.Verdict.{Verdict, fine, refused, Answer, done, refusal}
use Rattle.chain.specs.Chain.{Chain, most_steps, length_rule}
use Rattle.chain.proofs.Rules.{pass, stop, refuse_yes, refuse_no, lt_yes, lt_no, or_left, or_right, or_none, answer_refused, answer_done, kept, renewed}
use Rattle.chain.proofs.Told.{told, told_values_lem}
use Rattle.chain.proofs.Squarings.{counts_are, squarings_few}
use Rattle.products.specs.declared.Progress.{Progress}
use Rattle.methods.specs.Inner.{ChainStored}
use Rattle.quote.specs.ByMethod.{chain_of, count, count_rule, ceiling_answer}
use Rattle.compile.specs.Compile.{accepted_rule, compile_rule, compile_answer, compile_steps, compile_outputs}

-- of the steps that were emitted no more are squarings
pub squarings_within : {steps outputs steps' outputs' : List ℕ} {made : Progress} {c : Chain} → ChainStored steps outputs steps' outputs' made c
    → made.squarings ≤ made.steps
squarings_within {c = c} e = omega (arith, e.stored.count, e.stored.squarings, squarings_few c.steps)

module _ (p q : ℕ) (amounts : List ℕ) (method k : ℕ) where
  abbrev count' : ℕ
  count' = count p q amounts method k

  abbrev accepted : Verdict
  accepted = accepted_rule p q amounts method k

  -- what was answered before the length is judged
  pub quote_refused : (number place : ℕ) → refusal number place ≡ ceiling_answer p q amounts method k → refused number place ≡ accepted
  unfolding ceiling_answer accepted_rule
  quote_refused number place e = stop _ _ number place (told _ _ _ e)

  -- n steps were counted
  module _ (n most : ℕ) (is : done (n ∷ most ∷ []) ≡ ceiling_answer p q amounts method k) where
    pub quote_passed : fine ≡ count_rule p q amounts method k
    unfolding ceiling_answer
    quote_passed = told _ _ _ is

    pub quote_counted : n ≡ count'
    unfolding ceiling_answer
    quote_counted = ap (λ (l : List ℕ). get_or l 0 0) (told_values_lem _ _ _ is)

    pub length-judged : (v : Verdict) → v ≡ length_rule most_steps n → v ≡ accepted
    unfolding accepted_rule
    length-judged v judged = pass _ _ v quote_passed (judged ∙ ap (length_rule most_steps) quote_counted)

  module _ (steps outputs : List ℕ) where
    -- the answer of compile and what it leaves in the two slices
    abbrev Leaves : Answer → List ℕ → List ℕ → Type 0
    Leaves a steps' outputs' =
        (a ≡ compile_answer p q amounts method k (length steps / 2) (length outputs))
        × ((steps' ≡ compile_steps p q amounts method k (length outputs) steps)
        × (outputs' ≡ compile_outputs p q amounts method k (length steps / 2) outputs))

    refusing : (number place : ℕ) → refused number place ≡ compile_rule p q amounts method k (length steps / 2) (length outputs)
        → Leaves (refusal number place) steps outputs
    unfolding compile_answer compile_steps compile_outputs
    refusing number place e = (answer_refused _ _ number place e, (kept _ _ steps number place e, kept _ _ outputs number place e))

    pub compile_refused : (number place : ℕ) → refused number place ≡ accepted → Leaves (refusal number place) steps outputs
    unfolding compile_rule
    compile_refused number place e = refusing number place (stop _ _ number place e)

    module _ (n : ℕ) (was_accepted : fine ≡ accepted) (was_counted : n ≡ count') where
      -- either slice is too short
      pub too_short : (length steps / 2 < n) ⊎ (length outputs < q) → Leaves (refusal 5 0) steps outputs
      unfolding compile_rule
      too_short (inl h) =
          let e = was_counted in
          refusing 5 0 (pass _ _ _ was_accepted (refuse_yes _ 5 0 (or_left _ _ (lt_yes _ _ (omega arith)))))
      too_short (inr h) = refusing 5 0 (pass _ _ _ was_accepted (refuse_yes _ 5 0 (or_right _ _ (lt_yes _ _ h))))

      pub compiled : n ≤ length steps / 2 → q ≤ length outputs → (steps' outputs' : List ℕ) (made : Progress) (told-counts : List ℕ)
          → ChainStored steps outputs steps' outputs' made (chain_of p q amounts method k)
          → told-counts ≡ made.steps ∷ made.squarings ∷ (made.steps - made.squarings) ∷ [] → Leaves (done told-counts) steps' outputs'
      unfolding compile_answer compile_steps compile_outputs compile_rule
      compiled h g steps' outputs' made told-counts e f =
          let c = was_counted in
          let v = pass accepted _ _ was_accepted (refuse_no _ 5 0 (or_none _ _ (lt_no (length steps / 2) count' (omega arith)) (lt_no (length outputs) q g))) in (
            ap done (f ∙ counts_are _ _ _ e.stored.count e.stored.squarings) ∙ answer_done _ _ v,
            (renewed _ _ steps steps' v e.stored.cells_are, renewed _ _ outputs outputs' v e.outputs_are),
          )
