-- Inner vocabulary: what judging steps asks, and what counting them leaves. Nobody has to believe it to believe an entry point's promise.
use Rattle.std.specs.Prelude.{◌≡◌, List, [], ◌∷◌, ℕ, suc, ◌+◌, ◌^◌, ◌≤◌, ◌<◌}
use Rattle.chain.specs.Chain.{step_rule, one, is_squaring, squarings_of}
use Rattle.chain.specs.declared.Step.{Step}
use Rattle.step.specs.Inner.{passed}
use Rattle.legal.specs.declared.Tally.{Tally}

-- the values of a chain of n steps, and one more, have numbers of 32 bits
abbrev pub ValuesFit : ℕ → ℕ → Type 0
ValuesFit p n = p + n + 1 < 2 ^ 32

-- r is 1 for a squaring, else 0, of any step
pub record EqualCounted (x : Step) (r : ℕ) : Type 0 where
  pub is : r ≡ one is_squaring x
  pub low : r ≤ 1

-- what a number for each member of a list adds up to, the members numbered i, i + 1, ..
abbrev pub added_up : {A : Type 0} → (ℕ → A → ℕ) → ℕ → List A → ℕ
added_up f i [] = 0
added_up f i (x ∷ r) = f i x + added_up f (suc i) r

-- how many of the steps are legal
unfoldable pub legal_of : ℕ → List Step → ℕ
legal_of p steps = added_up (λ s x. passed (step_rule (p + s) s x)) 1 steps

-- what a pass over steps that does not tell them apart counts
pub record Tallied (p : ℕ) (steps : List Step) (t : Tally) : Type 0 where
  pub legal_are : t.legal ≡ legal_of p steps
  pub squarings_are : t.squarings ≡ squarings_of steps
