-- Steps counted by a number for each: at each turn of a loop what is counted and what is left are the whole. The legal steps and the squarings are two such
-- counts, and the legal ones are as many as the steps only where every step is legal.
use mathlib.Core.Path.{◌≡◌, refl, sym, ap, ap₂, ◌∙◌}
use mathlib.Core.List.{List, [], ◌∷◌}
use Prim.Native.Nat.{ℕ, suc, ◌+◌, ◌≤◌, ◌<◌}
use native.Mathlib.Numerals.{add-one}
use native.Mathlib.Omega.{arith}
use lib.ListN.{length, get_or, drop, drop_of_length-le}
use lib.Seq.{drop-cons}
use Rattle.chain.specs.Verdict.{Verdict, fine, refused, ◌then◌, in_order}
use Rattle.chain.specs.Chain.{by, step_rule, steps_rule, one, is_squaring, squarings_of}
use Rattle.chain.specs.declared.Step.{Step}
use Rattle.chain.proofs.Rules.{pass}
use Rattle.step.specs.Inner.{passed, LegalCounted}
use Rattle.legal.specs.Inner.{added_up, legal_of}

-- what is left to add of a list after s steps
unfoldable pub left_to_add : (ℕ → Step → ℕ) → List Step → ℕ → ℕ
left_to_add f l s = added_up f (s + 1) (drop s l)

module _ (f : ℕ → Step → ℕ) (l : List Step) where
  add_start : added_up f 1 l ≡ 0 + left_to_add f l 0
  unfolding left_to_add
  add_start = omega arith

  -- of the whole, w, k is counted; d is for the step at hand
  module _ (w s k : ℕ) where
    pub add_on : (x : Step) (d : ℕ) → s < length l → x ≡ get_or l s (by 0 0) → d ≡ f (s + 1) (by x.first x.second) → w ≡ k + left_to_add f l s
        → w ≡ k + d + left_to_add f l (s + 1)
    unfolding left_to_add
    add_on x d h is d-is e =
        let next = ap (added_up f (s + 1)) (drop-cons l s (by 0 0) h) in
        let same = ap (f (s + 1)) is in
        let later = ap₂ (λ (i j : ℕ). added_up f i (drop j l)) (sym (add-one (s + 1))) (sym (add-one s)) in
        omega (arith, e, next, same, later, d-is)

    pub add-end : length l ≤ s → w ≡ k + left_to_add f l s → k ≡ w
    unfolding left_to_add
    add-end h e =
        omega (arith, e, ap (added_up f (s + 1)) (drop_of_length-le l h))

-- whether a step is legal, by its place
abbrev pub legal_at : ℕ → ℕ → Step → ℕ
legal_at p s x = passed (step_rule (p + s) s x)

pub legal_start : (p : ℕ) (l : List Step) → legal_of p l ≡ 0 + left_to_add (legal_at p) l 0
unfolding legal_of
legal_start p l = add_start (legal_at p) l

pub legal_one : (p s v : ℕ) (x : Step) (d : ℕ) → v ≡ p + s + 1 → LegalCounted v x d → d ≡ legal_at p (s + 1) x
legal_one p s v x d is counted =
    let same : v ≡ p + (s + 1) = omega arith in
    counted.is (s + 1) ∙ ap (λ (u : ℕ). passed (step_rule u (s + 1) x)) same

-- whether it is a squaring, at any place
abbrev pub squaring_at : ℕ → Step → ℕ
squaring_at s x = one is_squaring x

squarings_added : (i : ℕ) (steps : List Step) → squarings_of steps ≡ added_up squaring_at i steps
unfolding squarings_of
squarings_added i [] = refl
squarings_added i (x ∷ r) = omega (arith, squarings_added (suc i) r)

pub squarings_start : (l : List Step) → squarings_of l ≡ 0 + left_to_add squaring_at l 0
squarings_start l = squarings_added 1 l ∙ add_start squaring_at l

pub ruleset adding = (legal_start, legal_one, squarings_start, add_on, add-end)

-- a rule passes no more members than there are, and as many only where it finds nothing
one_at_most : (w : Verdict) → passed w ≤ 1
unfolding passed
one_at_most fine = omega arith
one_at_most (refused n s) = omega arith

module _ {A : Type 0} (rule : ℕ → A → Verdict) where
  abbrev passes : ℕ → A → ℕ
  passes i x = passed (rule i x)

  passing_few : (i : ℕ) (l : List A) → added_up passes i l ≤ length l
  passing_few i [] = omega arith
  passing_few i (x ∷ l) = omega (arith, one_at_most (rule i x), passing_few (suc i) l)

  passing_all : (i : ℕ) (l : List A) → added_up passes i l ≡ length l → fine ≡ in_order rule i l
  unfolding passed
  passing_all i [] e = refl
  passing_all i (x ∷ l) e = by_first (rule i x) refl (passing_all (suc i) l)
    where
      by_first : (w : Verdict) → rule i x ≡ w → (added_up passes (suc i) l ≡ length l → fine ≡ in_order rule (suc i) l)
          → fine ≡ (rule i x then in_order rule (suc i) l)
      by_first fine f later = pass _ _ fine (sym f) (later (omega (arith, e, ap passed f)))
      by_first (refused n s) f later = absurd (omega (arith, e, ap passed f, passing_few (suc i) l))

pub all_legal : (p : ℕ) (l : List Step) (k : ℕ) → k ≡ legal_of p l → k ≡ length l → fine ≡ steps_rule p 1 l
unfolding legal_of
all_legal p l k is all = passing_all (λ s x. step_rule (p + s) s x) 1 l (omega (arith, is, all))
