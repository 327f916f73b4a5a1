-- Rising numbers part by part: those of the first part, and then the others. Whatever is made of each part, the first part's stands first and the rest is
-- made of the others, since parts before it are empty and none behind it has a number of it.
use mathlib.Core.Path.{◌≡◌, sym, ap, ap₂, ◌∙◌}
use mathlib.Core.List.{List, [], ◌++◌, append-nil, append_assoc}
use Prim.Native.Nat.{ℕ, zero, suc, ◌+◌, ◌-◌, ◌*◌, ◌/◌, ◌≤◌, ◌<◌}
use native.Mathlib.Nat.{zero-div}
use native.Mathlib.Decide.{dec_lt}
use native.Mathlib.Omega.{arith}
use lib.ListN.{length, get_or}
use lib.Seq.{drop-nil}
use Rattle.chain.proofs.Rules.{eq_yes, eq_no}
use Rattle.clumps.specs.Lists.{joined}
use Rattle.digits.specs.Range.{list_to}
use Rattle.groups.specs.Groups.{group, group_count}
use Rattle.clumps.specs.Clumps.{level, in_part, taken, remainder, clumps_of, overflow_of}
use Rattle.clumps.proofs.Cut.{part_below}
use Rattle.rows.specs.Inner.{Rising}
use Rattle.clumps.proofs.Lists.{only-append, only_all, only_none, joined_none}

-- f is made of each part, and nothing of none
module _ {A : Type 0} (f : List ℕ → List A) (empty : f [] ≡ []) (a : ℕ) where
  abbrev made : ℕ → List ℕ → List A
  made n u = joined n (λ j. f (in_part a j u))

  made_none : (n : ℕ) → made n [] ≡ []
  made_none n = joined_none n _ (λ j h. empty)

  -- parts past the last number's are empty
  made_more : (n d : ℕ) (u : List ℕ) → ((i : ℕ) → i < length u → get_or u i 0 / a < n) → made (n + d) u ≡ made n u
  made_more n zero u low = let q : n + 0 ≡ n = omega arith in ap (λ (k : ℕ). made k u) q
  made_more n (suc d) u low =
      let q : n + suc d ≡ suc (n + d) = omega arith in
      ap (λ (k : ℕ). made k u) q
      ∙ ap₂ ◌++◌ (made_more n d u low)
      (ap f (only_none _ u (λ i h. eq_no (get_or u i 0 / a) (n + d) (λ e. omega (arith, low i h)))) ∙ empty)
      ∙ append-nil (made n u)

  made_same : (n k : ℕ) (u : List ℕ) → ((i : ℕ) → i < length u → get_or u i 0 / a < n) → ((i : ℕ) → i < length u → get_or u i 0 / a < k)
      → made n u ≡ made k u
  made_same n k u low less = by_order (dec_lt n k)
    where
      by_order : Dec (n < k) → made n u ≡ made k u
      by_order (yes lt) = let q : n + (k - n) ≡ k = omega arith in sym (made_more n (k - n) u low) ∙ ap (λ (m : ℕ). made m u) q
      by_order (no ge) = let q : k + (n - k) ≡ n = omega arith in sym (ap (λ (m : ℕ). made m u) q) ∙ made_more k (n - k) u less

  module _ (k : ℕ) (here after : List ℕ) (own : (i : ℕ) → i < length here → get_or here i 0 / a ≡ k)
      (above : (i : ℕ) → i < length after → k < get_or after i 0 / a) where
    low : (j : ℕ) → j ≤ k → in_part a j after ≡ []
    low j h = only_none _ after (λ i g. eq_no (get_or after i 0 / a) j (λ e. omega (arith, above i g)))

    other : (j : ℕ) → (k ≡ j → ⊥) → in_part a j (here ++ after) ≡ in_part a j after
    other j ne =
        only-append _ here after
        ∙ ap (λ (l : List ℕ). l ++ in_part a j after) (only_none _ here (λ i g. eq_no (get_or here i 0 / a) j (λ e. ne (sym (own i g) ∙ e))))

    itself : in_part a k (here ++ after) ≡ here
    itself =
        only-append _ here after
        ∙ ap₂ ◌++◌ (only_all _ here (λ i g. eq_yes (get_or here i 0 / a) k (own i g))) (low k (omega arith))
        ∙ append-nil here

    made_first : (n : ℕ) → k < n → made n (here ++ after) ≡ f here ++ made n after
    made_first zero h = absurd (omega arith)
    made_first (suc n) h = by_place (made_first n) (dec_lt k n)
      where
        by_place : (k < n → made n (here ++ after) ≡ f here ++ made n after) → Dec (k < n)
            → made n (here ++ after) ++ f (in_part a n (here ++ after)) ≡ f here ++ (made n after ++ f (in_part a n after))
        by_place ih (yes lt) =
            ap₂ ◌++◌ (ih lt) (ap f (other n (λ e. omega arith))) ∙ append_assoc (f here) (made n after) (f (in_part a n after))
        by_place ih (no ge) =
            let last : k ≡ n = omega arith in
            ap₂ ◌++◌
            (joined_none n _ (λ j g. ap f (other j (λ e. omega arith) ∙ low j (omega arith)) ∙ empty))
            (ap (λ (j : ℕ). f (in_part a j (here ++ after))) (sym last) ∙ ap f itself)
            ∙ sym (append-nil (f here))
            ∙ ap (λ (l : List A). f here ++ l)
            (sym (ap₂ ◌++◌ (joined_none n _ (λ j g. ap f (low j (omega arith)) ∙ empty)) (ap f (low n (omega arith)) ∙ empty)))

taken_none : (b : ℕ) → taken b [] ≡ []
taken_none b = ap (λ (m : ℕ). list_to m (λ i. group b i [])) (zero-div b)

remainder_none : (b : ℕ) → remainder b [] ≡ []
remainder_none b = drop-nil (length {A = ℕ} [] / b * b)

-- of clumps and of overflow
module _ (a b : ℕ) where
  pub clumps_none : (n : ℕ) → clumps_of (level a b) n [] ≡ []
  unfolding clumps_of
  clumps_none n = made_none (taken b) (taken_none b) a (group_count a n)

  pub overflow_none : (n : ℕ) → overflow_of (level a b) n [] ≡ []
  unfolding overflow_of
  overflow_none n = made_none (remainder b) (remainder_none b) a (group_count a n)

  module _ (n k : ℕ) (here after : List ℕ) (own : (i : ℕ) → i < length here → get_or here i 0 / a ≡ k)
      (above : (i : ℕ) → i < length after → k < get_or after i 0 / a) (low : k < group_count a n) where
    pub clumps_first : clumps_of (level a b) n (here ++ after) ≡ taken b here ++ clumps_of (level a b) n after
    unfolding clumps_of
    clumps_first = made_first (taken b) (taken_none b) a k here after own above (group_count a n) low

    pub overflow_first : overflow_of (level a b) n (here ++ after) ≡ remainder b here ++ overflow_of (level a b) n after
    unfolding overflow_of
    overflow_first = made_first (remainder b) (remainder_none b) a k here after own above (group_count a n) low

  -- how many indices there are does not matter, if all numbers are among them
  module _ (some : 1 ≤ a) (n m : ℕ) (u : List ℕ) (low : Rising n u) (less : Rising m u) where
    pub clumps_any : clumps_of (level a b) n u ≡ clumps_of (level a b) m u
    unfolding clumps_of
    clumps_any =
        made_same (taken b) (taken_none b) a (group_count a n) (group_count a m) u (λ i h. part_below a n (get_or u i 0) some (low.below i h))
        (λ i h. part_below a m (get_or u i 0) some (less.below i h))

    pub overflow_any : overflow_of (level a b) n u ≡ overflow_of (level a b) m u
    unfolding overflow_of
    overflow_any =
        made_same (remainder b) (remainder_none b) a (group_count a n) (group_count a m) u (λ i h. part_below a n (get_or u i 0) some (low.below i h))
        (λ i h. part_below a m (get_or u i 0) some (less.below i h))
