-- Each way through a judgement gives the answer of its rule: a refusal is told on, and what passes is answered with what was counted.
use mathlib.Core.Path.{◌≡◌, ap₂, ◌∙◌}
use mathlib.Core.List.{List, [], ◌∷◌}
use Prim.Native.Nat.{ℕ}
use Rattle.chain.specs.Verdict.{Verdict, fine, refused, done, refusal, answer}
use Rattle.chain.proofs.Rules.{not_fine, answer_refused, answer_done}
use Rattle.methods.specs.Inner.{QuoteOf}
use Rattle.answers.specs.declared.Quote.{Quote}
use Rattle.quote.specs.ByMethod.{method_of, count_rule, ceiling_answer}

-- what is refused is answered so, and whatever was to follow from its being fine follows
pub stopped : (v : Verdict) (values : List ℕ) (number place : ℕ) {M : Type 0} → refused number place ≡ v → (refusal number place ≡ answer v values) × (v ≡ fine → M)
stopped v values number place e = (answer_refused v values number place e, λ f. absurd (not_fine (e ∙ f)))

-- what passes has this quote
pub counted : (p q : ℕ) (amounts : List ℕ) (method k : ℕ) (r : Quote) → fine ≡ count_rule p q amounts method k → QuoteOf r (method_of p q amounts method k)
    → done (r.count ∷ r.ceiling ∷ []) ≡ ceiling_answer p q amounts method k
unfolding ceiling_answer
counted p q amounts method k r e is =
    ap₂ (λ (n m : ℕ). done (n ∷ m ∷ [])) is.count_is is.ceiling_is ∙ answer_done _ _ e
