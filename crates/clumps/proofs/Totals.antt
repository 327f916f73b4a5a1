-- Sums over lists: a list put together of others has the sum of their sums, and a sum over a list is one over its places.
use mathlib.Core.Path.{◌≡◌, refl, sym, ap, ap₂, ◌∙◌}
use mathlib.Core.Bool.{Bool, true, false, cond}
use mathlib.Core.List.{List, [], ◌∷◌, ◌++◌, map}
use Prim.Native.Nat.{ℕ, zero, suc, ◌+◌, ◌*◌, ◌≤◌, ◌<◌}
use native.Mathlib.Nat.{mul-add, mul-zero, one-mul, zero-mul}
use native.Mathlib.Decide.{dec_lt}
use native.Mathlib.Omega.{arith}
use lib.ListN.{length, get_or}
use Rattle.digits.specs.Range.{sum_to, list_to}
use Rattle.digits.proofs.Range.{sum_same, sum_split}
use Rattle.clumps.specs.Lists.{joined, which}

-- a test as a number
abbrev pub bit : Bool → ℕ
bit true = 1
bit false = 0

pub bit_low : (t : Bool) → bit t ≤ 1
bit_low true = omega arith
bit_low false = omega arith

-- the sum of f over a list
abbrev pub total : {A : Type 0} → (A → ℕ) → List A → ℕ
total f [] = 0
total f (x ∷ r) = f x + total f r

module _ {A : Type 0} where
  pub total_append : (f : A → ℕ) (l r : List A) → total f (l ++ r) ≡ total f l + total f r
  total_append f [] r = omega arith
  total_append f (x ∷ l) r = omega (arith, total_append f l r)

  pub total_same : (f g : A → ℕ) (l : List A) → ((x : A) → f x ≡ g x) → total f l ≡ total g l
  total_same f g [] e = refl
  total_same f g (x ∷ l) e = ap₂ ◌+◌ (e x) (total_same f g l e)

  pub total_zero : (f : A → ℕ) (l : List A) → ((x : A) → f x ≡ 0) → total f l ≡ 0
  total_zero f [] e = refl
  total_zero f (x ∷ l) e = ap₂ ◌+◌ (e x) (total_zero f l e)

  pub total_add : (f g : A → ℕ) (l : List A) → total (λ x. f x + g x) l ≡ total f l + total g l
  total_add f g [] = refl
  total_add f g (x ∷ l) = omega (arith, total_add f g l)

  pub total_mul : (f : A → ℕ) (w : ℕ) (l : List A) → total (λ x. w * f x) l ≡ w * total f l
  total_mul f w [] = sym (mul-zero w)
  total_mul f w (x ∷ l) = omega (arith, total_mul f w l, mul-add w (f x) (total f l))

  pub total_joined : (f : A → ℕ) (n : ℕ) (g : ℕ → List A) → total f (joined n g) ≡ sum_to n (λ i. total f (g i))
  total_joined f zero g = refl
  total_joined f (suc n) g = total_append f (joined n g) (g n) ∙ ap (λ (s : ℕ). s + total f (g n)) (total_joined f n g)

  pub total_list : (f : A → ℕ) (n : ℕ) (g : ℕ → A) → total f (list_to n g) ≡ sum_to n (λ i. f (g i))
  total_list f zero g = refl
  total_list f (suc n) g = total_append f (list_to n g) (g n ∷ []) ∙ omega (arith, total_list f n g)

  pub total_map : {B : Type 0} (f : B → ℕ) (g : A → B) (l : List A) → total f (map g l) ≡ total (λ x. f (g x)) l
  total_map f g [] = refl
  total_map f g (x ∷ l) = ap (λ (k : ℕ). f (g x) + k) (total_map f g l)

  pub length_total : (l : List A) → length l ≡ total (λ x. 1) l
  length_total [] = refl
  length_total (x ∷ l) = omega (arith, length_total l)

  -- place by place
  pub total_at : (f : A → ℕ) (l : List A) (d : A) → total f l ≡ sum_to (length l) (λ i. f (get_or l i d))
  total_at f [] d = refl
  total_at f (x ∷ l) d =
      let n : ℕ = length l in
      let g : ℕ → ℕ = λ i. f (get_or (x ∷ l) i d) in
      let one : suc n ≡ 1 + n = omega arith in
      let first : sum_to (1 + n) g ≡ sum_to 1 g + sum_to n (λ i. g (1 + i)) = sum_split 1 n g in
      let rest : sum_to n (λ i. g (1 + i)) ≡ sum_to n (λ i. f (get_or l i d)) = sum_same n _ _ (λ i h. next i) in
      ap (λ (s : ℕ). f x + s) (total_at f l d) ∙ sym (ap (λ (k : ℕ). sum_to k g) one ∙ first ∙ omega (arith, rest))
    where
      next : (i : ℕ) → f (get_or (x ∷ l) (1 + i) d) ≡ f (get_or l i d)
      next i = let e : 1 + i ≡ suc i = omega arith in rw e

-- by a test
pub total_which : (f : ℕ → ℕ) (test : ℕ → Bool) (n : ℕ) → total f (which test n) ≡ sum_to n (λ i. bit (test i) * f i)
total_which f test n = total_joined f n (λ i. cond (test i) (i ∷ []) []) ∙ sum_same n _ _ (λ i h. one i (test i))
  where
    one : (i : ℕ) (t : Bool) → total f (cond t (i ∷ []) []) ≡ bit t * f i
    one i true = omega (arith, one-mul (f i))
    one i false = sym (zero-mul (f i))

-- a sum that is not 0 has a part that is not
pub record Part (n : ℕ) (f : ℕ → ℕ) : Type 0 where
  pub place : ℕ
  pub below : place < n
  pub some : 0 < f place

pub sum-part : (n : ℕ) (f : ℕ → ℕ) → 0 < sum_to n f → Part n f
sum-part zero f h = absurd (omega arith)
sum-part (suc n) f h = by_size (sum-part n f) (dec_lt 0 (f n))
  where
    by_size : (0 < sum_to n f → Part n f) → Dec (0 < f n) → Part (suc n) f
    by_size ih (yes lt) = record { place = n; below = omega arith; some = lt }
    by_size ih (no ge) = let a = ih (omega arith) in record { place = a.place; below = omega (arith, a.below); some = a.some }
