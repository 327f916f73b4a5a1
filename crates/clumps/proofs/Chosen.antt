-- A number below n stands once among those that pass a test if it passes; so a sum over those, or over any list of such numbers, is one over all numbers
-- below n.
use mathlib.Core.Path.{◌≡◌, refl, sym, ap, ap₂, ◌∙◌}
use mathlib.Core.Bool.{Bool, true, false}
use mathlib.Core.List.{List, [], ◌∷◌}
use Prim.Native.Nat.{ℕ, ◌+◌, ◌*◌, ◌≤◌, ◌<◌}
use native.Mathlib.Nat.{mul-one, mul-zero, one-mul, zero-mul, add-mul}
use native.Mathlib.Decide.{dec_lt}
use native.Mathlib.Omega.{arith}
use lib.ListN.{length}
use Rattle.chain.specs.Tests.{◌=?◌}
use Rattle.chain.proofs.Rules.{eq_yes, eq_no}
use Rattle.digits.specs.Range.{sum_to, sign}
use Rattle.digits.proofs.Range.{sum_same, sum-zero, sum-add, sum_single}
use Rattle.clumps.specs.Lists.{which, has}
use Rattle.clumps.proofs.Totals.{bit, bit_low, total, total_which, length_total}
use Rattle.clumps.proofs.Often.{often, number_tells, often_first, among_often, sign_once}
use Rattle.clumps.proofs.Cut.{Proper, member_below}

bit_tells : (s t : Bool) → bit s ≡ bit t → s ≡ t
bit_tells true true e = refl
bit_tells false false e = refl
bit_tells true false e = absurd (omega (arith, e))
bit_tells false true e = absurd (omega (arith, e))

module _ (test : ℕ → Bool) (n : ℕ) where
  other : (x i : ℕ) → (i ≡ x → ⊥) → bit (test i) * bit (x =? i) ≡ 0
  other x i ne = ap (λ (t : Bool). bit (test i) * bit t) (eq_no x i (λ e. ne (sym e))) ∙ mul-zero (bit (test i))

  pub often_chosen : (x : ℕ) → x < n → often ◌=?◌ x (which test n) ≡ bit (test x)
  often_chosen x h =
      total_which _ test n
      ∙ sum_single n _ x h (λ i g ne. other x i ne)
      ∙ ap (λ (t : Bool). bit (test x) * bit t) (eq_yes x x refl)
      ∙ mul-one (bit (test x))

  often_beyond : (x : ℕ) → n ≤ x → often ◌=?◌ x (which test n) ≡ 0
  often_beyond x h = total_which _ test n ∙ sum-zero n _ (λ i g. other x i (λ e. omega arith))

  pub chosen_proper : Proper n (which test n)
  chosen_proper = record { once = λ x. low x (dec_lt x n); inside = often_beyond }
    where
      low : (x : ℕ) → Dec (x < n) → often ◌=?◌ x (which test n) ≤ 1
      low x (yes lt) = omega (arith, often_chosen x lt, bit_low (test x))
      low x (no ge) = omega (arith, often_beyond x (omega arith))

  pub chosen_below : (x : ℕ) → 0 < often ◌=?◌ x (which test n) → x < n
  chosen_below = member_below n (which test n) often_beyond

  -- a number below n is among them exactly if it passes
  pub has_chosen : (x : ℕ) → x < n → has x (which test n) ≡ test x
  has_chosen x h =
      bit_tells (has x (which test n)) (test x)
      (among_often ◌=?◌ x (which test n) ∙ ap sign (often_chosen x h) ∙ sign_once (bit (test x)) (bit_low (test x)))

  pub chosen-length : length (which test n) ≡ sum_to n (λ i. bit (test i))
  chosen-length = length_total (which test n) ∙ total_which (λ i. 1) test n ∙ sum_same n _ _ (λ i h. mul-one (bit (test i)))

-- the sum over a list, index by index
pub total_often : (f : ℕ → ℕ) (n : ℕ) (s : List ℕ) → ((x : ℕ) → n ≤ x → often ◌=?◌ x s ≡ 0) → sum_to n (λ i. often ◌=?◌ i s * f i) ≡ total f s
total_often f n [] inside = sum-zero n _ (λ i h. zero-mul (f i))
total_often f n (x ∷ s) inside =
    sum_same n _ _ (λ i h. add-mul (bit (i =? x)) (often ◌=?◌ i s) (f i))
    ∙ sum-add n (λ i. bit (i =? x) * f i) (λ i. often ◌=?◌ i s * f i)
    ∙ ap₂ ◌+◌ own (total_often f n s (λ y h. omega (arith, inside y h)))
  where
    own : sum_to n (λ i. bit (i =? x) * f i) ≡ f x
    own =
        sum_single n _ x (member_below n (x ∷ s) inside x (often_first ◌=?◌ number_tells x s))
        (λ i h ne. ap (λ (t : Bool). bit t * f i) (eq_no i x ne) ∙ zero-mul (f i))
        ∙ ap (λ (t : Bool). bit t * f x) (eq_yes x x refl)
        ∙ one-mul (f x)

-- a sum of at most 1 is one of signs
pub total_sign : {A : Type 0} (f : A → ℕ) (l : List A) → total f l ≤ 1 → total (λ x. sign (f x)) l ≡ total f l
total_sign f [] h = refl
total_sign f (x ∷ l) h = ap₂ ◌+◌ (sign_once (f x) (omega arith)) (total_sign f l (omega arith))
