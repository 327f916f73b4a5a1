-- Sums and maxima over the numbers below a bound, by induction on the bound: term by term, split in two, bounded, exchanged.
use mathlib.Core.Path.{◌≡◌, refl, sym, ap, ap₂, ◌∙◌}
use mathlib.Core.Logic.{◌↔◌}
use Prim.Native.Nat.{ℕ, zero, suc, ◌+◌, ◌-◌, ◌*◌, ◌≤◌, ◌<◌, max, zero-le}
use native.Mathlib.Nat.{add-mul, suc-mul, zero-mul, le_refl}
use native.Mathlib.Decide.{dec_lt}
use native.Mathlib.Numerals.{add-one}
use native.Mathlib.Omega.{arith}
use Rattle.digits.specs.Range.{sum_to, max_to, sign}

-- sums
pub sum_same : (n : ℕ) (f g : ℕ → ℕ) → ((i : ℕ) → i < n → f i ≡ g i) → sum_to n f ≡ sum_to n g
sum_same zero f g e = refl
sum_same (suc n) f g e = ap₂ ◌+◌ (sum_same n f g (λ i h. e i (omega arith))) (e n (omega arith))

pub sum-zero : (n : ℕ) (f : ℕ → ℕ) → ((i : ℕ) → i < n → f i ≡ 0) → sum_to n f ≡ 0
sum-zero zero f e = refl
sum-zero (suc n) f e = ap₂ ◌+◌ (sum-zero n f (λ i h. e i (omega arith))) (e n (omega arith))

pub sum-add : (n : ℕ) (f g : ℕ → ℕ) → sum_to n (λ i. f i + g i) ≡ sum_to n f + sum_to n g
sum-add zero f g = refl
sum-add (suc n) f g = omega (arith, sum-add n f g)

pub sum-mul : (n : ℕ) (f : ℕ → ℕ) (a : ℕ) → sum_to n (λ i. f i * a) ≡ sum_to n f * a
sum-mul zero f a = omega (arith, zero-mul a)
sum-mul (suc n) f a = omega (arith, sum-mul n f a, add-mul (sum_to n f) (f n) a)

pub sum_le : (n : ℕ) (f g : ℕ → ℕ) → ((i : ℕ) → i < n → f i ≤ g i) → sum_to n f ≤ sum_to n g
sum_le zero f g h = le_refl 0
sum_le (suc n) f g h = omega (arith, sum_le n f g (λ i g. h i (omega arith)), h n (omega arith))

pub sum_low : (n : ℕ) (f : ℕ → ℕ) (a : ℕ) → ((i : ℕ) → i < n → f i ≤ a) → sum_to n f ≤ n * a
sum_low zero f a h = zero-le
sum_low (suc n) f a h = omega (arith, sum_low n f a (λ i g. h i (omega arith)), h n (omega arith), suc-mul n a)

-- the order of two sums does not matter
pub sum_swap : (m n : ℕ) (f : ℕ → ℕ → ℕ) → sum_to m (λ i. sum_to n (λ j. f i j)) ≡ sum_to n (λ j. sum_to m (λ i. f i j))
sum_swap zero n f = sym (sum-zero n _ (λ j h. refl))
sum_swap (suc m) n f = ap (λ (s : ℕ). s + sum_to n (f m)) (sum_swap m n f) ∙ sym (sum-add n _ (f m))

-- each part of a sum is at most the sum
pub le_sum : (n : ℕ) (f : ℕ → ℕ) (i : ℕ) → i < n → f i ≤ sum_to n f
le_sum zero f i h = absurd (omega arith)
le_sum (suc n) f i h = by_place (le_sum n f i) (dec_lt i n)
  where
    by_place : (i < n → f i ≤ sum_to n f) → Dec (i < n) → f i ≤ sum_to n f + f n
    by_place ih (yes lt) = omega (arith, ih lt)
    by_place ih (no ge) =
        let last : i ≡ n = omega arith in
        rw last (omega arith)

-- a sum is 0 exactly if each part is
pub sum-none : (n : ℕ) (f : ℕ → ℕ) → sum_to n f ≡ 0 ↔ ((i : ℕ) → i < n → f i ≡ 0)
sum-none n f = (λ e i h. omega (arith, le_sum n f i h), sum-zero n f)

-- a sum of which only one part is not 0
pub sum_single : (n : ℕ) (f : ℕ → ℕ) (j : ℕ) → j < n → ((i : ℕ) → i < n → (i ≡ j → ⊥) → f i ≡ 0) → sum_to n f ≡ f j
sum_single zero f j h none = absurd (omega arith)
sum_single (suc n) f j h none = by_place (λ lt. sum_single n f j lt (λ i g. none i (omega arith))) (dec_lt j n)
  where
    by_place : (j < n → sum_to n f ≡ f j) → Dec (j < n) → sum_to n f + f n ≡ f j
    by_place ih (yes lt) = omega (arith, ih lt, none n (omega arith) (omega arith))
    by_place ih (no ge) =
        let last : j ≡ n = omega arith in
        rw last (omega (arith, sum-zero n f (λ i g. none i (omega arith) (omega arith))))

-- a sum over m numbers, then over n more
pub sum_split : (m n : ℕ) (f : ℕ → ℕ) → sum_to (m + n) f ≡ sum_to m f + sum_to n (λ i. f (m + i))
sum_split m zero f =
    let e : m + 0 ≡ m = omega arith in
    rw e (omega arith)
sum_split m (suc n) f =
    let e : m + suc n ≡ suc (m + n) = omega arith in
    rw e (omega (arith, sum_split m n f))

-- fewer parts have no larger sum
pub sum_more : (f : ℕ → ℕ) (m n : ℕ) → m ≤ n → sum_to m f ≤ sum_to n f
sum_more f m n h =
    let e : n ≡ m + (n - m) = omega arith in
    rw e (omega (arith, sum_split m (n - m) f))

-- maxima
pub le_max : (n : ℕ) (f : ℕ → ℕ) (i : ℕ) → i < n → f i ≤ max_to n f
le_max zero f i h = absurd (omega arith)
le_max (suc n) f i h = by_place (le_max n f i) (dec_lt i n)
  where
    by_place : (i < n → f i ≤ max_to n f) → Dec (i < n) → f i ≤ max (max_to n f) (f n)
    by_place ih (yes lt) = omega (arith, ih lt)
    by_place ih (no ge) =
        let last : i ≡ n = omega arith in
        rw last (omega arith)

pub max_low : (n : ℕ) (f : ℕ → ℕ) (limit : ℕ) → ((i : ℕ) → i < n → f i ≤ limit) → max_to n f ≤ limit
max_low zero f limit h = zero-le
max_low (suc n) f limit h = omega (arith, max_low n f limit (λ i g. h i (omega arith)), h n (omega arith))

-- a maximum is 0 exactly if each number is
pub max_none : (n : ℕ) (f : ℕ → ℕ) → max_to n f ≡ 0 ↔ ((i : ℕ) → i < n → f i ≡ 0)
max_none n f = (λ e i h. omega (arith, le_max n f i h), λ none. omega (arith, max_low n f 0 (λ i h. omega (arith, none i h))))

-- a maximum that is not 0 is one of the numbers
pub record Attained (n : ℕ) (f : ℕ → ℕ) : Type 0 where
  pub place : ℕ
  pub below : place < n
  pub largest : f place ≡ max_to n f

pub max_attained : (n : ℕ) (f : ℕ → ℕ) → 0 < max_to n f → Attained n f
max_attained zero f h = absurd (omega arith)
max_attained (suc n) f h = by_size (max_attained n f) (dec_lt (f n) (max_to n f))
  where
    by_size : (0 < max_to n f → Attained n f) → Dec (f n < max_to n f) → Attained (suc n) f
    by_size ih (yes lt) =
        let a = ih (omega arith) in
        record { place = a.place; below = omega (arith, a.below); largest = omega (arith, a.largest) }
    by_size ih (no ge) = record { place = n; below = omega arith; largest = omega arith }

-- one number more, as a loop takes it
module _ (f : ℕ → ℕ) (n s x : ℕ) (is : x ≡ f n) where
  pub sum_on : s ≡ sum_to n f → s + x ≡ sum_to (n + 1) f
  sum_on e = rw (add-one n) (ap₂ ◌+◌ e is)

  pub max_on : s ≡ max_to n f → max s x ≡ max_to (n + 1) f
  max_on e = rw (add-one n) (ap₂ max e is)

-- the last number taken
pub sum-end : (f : ℕ → ℕ) (n bound s : ℕ) → n ≤ bound → bound ≤ n → s ≡ sum_to n f → s ≡ sum_to bound f
sum-end f n bound s h g e = let last : bound ≡ n = omega arith in rw last e

-- the same of a sum that begins at b
pub sum-after_end : (f : ℕ → ℕ) (b n s : ℕ) → s ≡ b + sum_to n f → (bound : ℕ) → n ≤ bound → bound ≤ n → s ≡ b + sum_to bound f
sum-after_end f b n s e bound h g = let last : bound ≡ n = omega arith in rw last e

-- signs
pub sign_low : (x : ℕ) → sign x ≤ 1
sign_low zero = zero-le
sign_low (suc x) = le_refl 1

pub sign_le : (x : ℕ) → sign x ≤ x
sign_le zero = zero-le
sign_le (suc x) = omega arith

pub sign_some : (x : ℕ) → 0 < x → sign x ≡ 1
sign_some zero h = absurd (omega arith)
sign_some (suc x) h = refl

pub sign_one : (x : ℕ) → (x ≡ 0 → ⊥) → 1 ≡ sign x
sign_one x h = sym (sign_some x (omega arith))

pub sign_pos : (x : ℕ) → sign x ≡ 1 → 0 < x
sign_pos zero e = absurd (omega arith)
sign_pos (suc x) e = omega arith

pub sign_sign : (x : ℕ) → sign (sign x) ≡ sign x
sign_sign zero = refl
sign_sign (suc x) = refl

pub sign_mono : (x y : ℕ) → x ≤ y → sign x ≤ sign y
sign_mono zero y h = zero-le
sign_mono (suc x) y h = omega (arith, sign_some y (omega arith))

-- at most as many are not 0 as there are
pub signs_low : (n : ℕ) (f : ℕ → ℕ) → sum_to n (λ i. sign (f i)) ≤ n
signs_low n f = omega (arith, sum_low n (λ i. sign (f i)) 1 (λ i h. sign_low (f i)))

-- a sum, as a maximum, is 0 only where both its parts are
pub sign-add : (x y : ℕ) → sign (x + y) ≡ max (sign x) (sign y)
sign-add zero y = let e : 0 + y ≡ y = omega arith in rw e (omega arith)
sign-add (suc x) y = sign_some (suc x + y) (omega arith) ∙ omega (arith, sign_low y)

pub sign_max : (x y : ℕ) → sign (max x y) ≡ max (sign x) (sign y)
sign_max zero y = let e : max 0 y ≡ y = omega arith in rw e (omega arith)
sign_max (suc x) y = sign_some (max (suc x) y) (omega arith) ∙ omega (arith, sign_low y)

-- a product is 0 only where one of its parts is: here a part that is not
pub sign-mul : (x y : ℕ) → 0 < y → sign (x * y) ≡ sign x
sign-mul zero y h = ap sign (zero-mul y)
sign-mul (suc x) y h = sign_some (suc x * y) (omega (arith, suc-mul x y))

-- which parts are 0 decides whether their sum is, and their maximum
pub sum-sign : (n : ℕ) (f g : ℕ → ℕ) → ((i : ℕ) → i < n → sign (f i) ≡ sign (g i)) → sign (sum_to n f) ≡ sign (sum_to n g)
sum-sign zero f g e = refl
sum-sign (suc n) f g e =
    omega (arith, sum-sign n f g (λ i h. e i (omega arith)), e n (omega arith), sign-add (sum_to n f) (f n), sign-add (sum_to n g) (g n))

pub max_sign : (n : ℕ) (f : ℕ → ℕ) → sign (max_to n f) ≡ sign (sum_to n f)
max_sign zero f = refl
max_sign (suc n) f = omega (arith, max_sign n f, sign_max (max_to n f) (f n), sign-add (sum_to n f) (f n))
