-- The digits of a number are those of its tenth and then its remainder, however many steps the definition is allowed.
use mathlib.Core.Path.{◌≡◌, refl, sym, ap, ◌∙◌}
use mathlib.Core.List.{List, [], ◌∷◌, ◌++◌, append_assoc}
use Prim.Native.Nat.{ℕ, zero, suc, ◌+◌, ◌/◌, ◌%◌, ◌^◌, ◌≤◌, ◌<◌}
use native.Mathlib.Decide.{dec_lt}
use native.Mathlib.Nat.{pow-succ'}
use native.Mathlib.Omega.{arith}
use lib.ListN.{length, length-append}
use Rattle.decimal.specs.Decimal.{decimal_onto, decimal}

onto_zero : (f : ℕ) (t : List ℕ) → decimal_onto f 0 t ≡ t
onto_zero zero t = refl
onto_zero (suc f) t = refl

-- the digits do not depend on what they stand before
onto_append : (f x : ℕ) (t : List ℕ) → decimal_onto f x t ≡ decimal_onto f x [] ++ t
onto_append zero x t = refl
onto_append (suc f) zero t = refl
onto_append (suc f) (suc x) t =
    let d : List ℕ = (48 + suc x % 10) ∷ [] in
    onto_append f (suc x / 10) (d ++ t)
    ∙ sym (append_assoc (decimal_onto f (suc x / 10) []) d t)
    ∙ ap (λ (l : List ℕ). l ++ t) (sym (onto_append f (suc x / 10) d))

-- nor on how many are allowed, once it is enough
onto_enough : (f g x : ℕ) (t : List ℕ) → x ≤ f → x ≤ g → decimal_onto f x t ≡ decimal_onto g x t
onto_enough zero g x t h k =
    let e : x ≡ 0 = omega arith in
    rw e (sym (onto_zero g t))
onto_enough (suc f) zero x t h k =
    let e : x ≡ 0 = omega arith in
    rw e
onto_enough (suc f) (suc g) zero t h k = refl
onto_enough (suc f) (suc g) (suc x) t h k = onto_enough f g (suc x / 10) _ (omega arith) (omega arith)

decimal_some : (x : ℕ) → 0 < x → decimal x ≡ decimal_onto x x []
unfolding decimal
decimal_some zero h = absurd (omega arith)
decimal_some (suc x) h = refl

-- one digit
pub decimal_digit : (x : ℕ) → x < 10 → decimal x ≡ (48 + x) ∷ []
unfolding decimal
decimal_digit zero h = refl
decimal_digit (suc x) h =
    let e : suc x / 10 ≡ 0 = omega arith in
    let e' : suc x % 10 ≡ suc x = omega arith in
    rw (e, e') (onto_zero x _)

-- several: all but the last, and the last
pub decimal_more : (x : ℕ) → 10 ≤ x → decimal x ≡ decimal (x / 10) ++ (48 + x % 10) ∷ []
decimal_more zero h = absurd (omega arith)
decimal_more (suc x) h =
    decimal_some (suc x) (omega arith)
    ∙ onto_append x (suc x / 10) ((48 + suc x % 10) ∷ [])
    ∙ ap (λ (l : List ℕ). l ++ (48 + suc x % 10) ∷ [])
    (onto_enough x (suc x / 10) (suc x / 10) [] (omega arith) (omega arith) ∙ sym (decimal_some (suc x / 10) (omega arith)))

-- at most k + 1 digits below 10 ^ (k + 1)
pub decimal_short : (k x : ℕ) → x < 10 ^ suc k → length (decimal x) ≤ suc k
decimal_short zero x h = rw (decimal_digit x (omega arith)) (omega arith)
decimal_short (suc k) x h = by_size (dec_lt x 10) (λ g. decimal_short k (x / 10) g)
  where
    by_size : Dec (x < 10) → (x / 10 < 10 ^ suc k → length (decimal (x / 10)) ≤ suc k) → length (decimal x) ≤ suc (suc k)
    by_size (yes low) ih = rw (decimal_digit x low) (omega arith)
    by_size (no more) ih =
        let g : length (decimal (x / 10)) ≤ suc k = ih (omega (arith, pow-succ' 10 (suc k))) in
        rw (decimal_more x (omega arith), length-append) (omega arith)

-- how many digits there are
pub digit-length : (x : ℕ) → x < 10 → length (decimal x) ≡ 1
digit-length x h = rw (decimal_digit x h)

pub more-length : (x : ℕ) → 10 ≤ x → length (decimal x) ≡ length (decimal (x / 10)) + 1
more-length x h = rw (decimal_more x h, length-append)
