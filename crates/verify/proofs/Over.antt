-- The first number over the limit is decided by the numbers up to it: each turn either finds it or leaves it to those that follow.
use mathlib.Core.Path.{◌≡◌, refl, sym, ap, ◌∙◌}
use mathlib.Core.Bool.{Bool, true, false, cond}
use mathlib.Core.List.{List, [], ◌∷◌}
use Prim.Native.Nat.{ℕ, zero, suc, ◌+◌, ◌≤◌, ◌<◌}
use native.Mathlib.Omega.{arith}
use lib.ListN.{length, get_or, drop, drop_of_length-le}
use lib.Seq.{drop-cons}
use Rattle.chain.specs.Tests.{◌<?◌}
use Rattle.chain.specs.Chain.{most_amount}
use Rattle.chain.proofs.Rules.{lt_yes, lt_no, not_lt}
use Rattle.verify.specs.Verify.{over_or, first_over}

module _ (x s later : ℕ) where
  pub over_yes : most_amount < x → over_or x s later ≡ s
  unfolding over_or
  over_yes h = rw (lt_yes most_amount x h)

  pub over_no : x ≤ most_amount → over_or x s later ≡ later
  unfolding over_or
  over_no h = rw (lt_no most_amount x h)

  -- no place is found only where none is later and the number is low
  pub over_neither : (s ≡ 0 → ⊥) → over_or x s later ≡ 0 → (x ≤ most_amount) × (later ≡ 0)
  unfolding over_or
  over_neither some = by_test (most_amount <? x) refl
    where
      by_test : (t : Bool) → most_amount <? x ≡ t → cond t s later ≡ 0 → (x ≤ most_amount) × (later ≡ 0)
      by_test true u e = absurd (some e)
      by_test false u e = (not_lt most_amount x u, e)

-- the values w of which those from p + 1 on are the steps': what is left to find after s steps
unfoldable pub over_left : ℕ → List ℕ → ℕ → ℕ
over_left p w s = first_over (s + 1) (drop (p + s + 1) w)

pub over_start : (p : ℕ) (w : List ℕ) → first_over 1 (drop (p + 1) w) ≡ over_left p w 0
unfolding over_left
over_start p w =
    let e : p + 0 + 1 ≡ p + 1 = omega arith in
    rw e

module _ (p : ℕ) (w : List ℕ) (s : ℕ) where
  next : p + s + 1 < length w → over_left p w s ≡ over_or (get_or w (p + s + 1) 0) (s + 1) (over_left p w (s + 1))
  unfolding over_left
  next h =
      let e : p + (s + 1) + 1 ≡ suc (p + s + 1) = omega arith in
      let e' : s + 1 + 1 ≡ suc (s + 1) = omega arith in
      rw (e, e') (ap (first_over (s + 1)) (drop-cons w (p + s + 1) 0 h))

-- `f` is the first place of all
module _ (p : ℕ) (w : List ℕ) (s f : ℕ) where
  pub over_on : p + s + 1 < length w → get_or w (p + s + 1) 0 ≤ most_amount → f ≡ over_left p w s → f ≡ over_left p w (s + 1)
  over_on h low i = i ∙ next p w s h ∙ over_no _ _ _ low

  pub over_bad : p + s + 1 < length w → most_amount < get_or w (p + s + 1) 0 → f ≡ over_left p w s → s + 1 ≡ f
  over_bad h high i = sym (i ∙ next p w s h ∙ over_yes _ _ _ high)

  pub over_end : length w ≤ p + s + 1 → f ≡ over_left p w s → 0 ≡ f
  unfolding over_left
  over_end h i = sym (i ∙ rw (drop_of_length-le w h))

-- no number of the list is over the limit
pub over_none : (s : ℕ) (xs : List ℕ) → first_over (suc s) xs ≡ 0 → (i : ℕ) → i < length xs → get_or xs i 0 ≤ most_amount
over_none s [] e i h = absurd (omega arith)
over_none s (x ∷ xs) e zero h = (over_neither x (suc s) _ (λ z. omega arith) e).0
over_none s (x ∷ xs) e (suc i) h = over_none (suc s) xs (over_neither x (suc s) _ (λ z. omega arith) e).1 i (omega arith)

pub none_over : (s : ℕ) (xs : List ℕ) → ((i : ℕ) → i < length xs → get_or xs i 0 ≤ most_amount) → first_over s xs ≡ 0
none_over s [] h = refl
none_over s (x ∷ xs) h = over_no x s _ (h 0 (omega arith)) ∙ none_over (suc s) xs (λ i g. h (suc i) (omega arith))
