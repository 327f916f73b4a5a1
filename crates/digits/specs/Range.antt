-- Sums, maxima, overlays and lists over the numbers below a bound.
use Rattle.std.specs.Prelude.{List, [], ◌∷◌, ◌++◌, ℕ, zero, suc, ◌+◌, max}
use Rattle.std.specs.Int.Bits.{bit_or}

-- f 0 + .. + f (n - 1)
abbrev pub sum_to : ℕ → (ℕ → ℕ) → ℕ
sum_to zero f = 0
sum_to (suc n) f = sum_to n f + f n

-- the largest of f 0 .. f (n - 1), 0 if there is none
abbrev pub max_to : ℕ → (ℕ → ℕ) → ℕ
max_to zero f = 0
max_to (suc n) f = max (max_to n f) (f n)

-- f 0 .. f (n - 1) one over the other: a bit is 0 exactly where it is 0 in each
abbrev pub or_to : ℕ → (ℕ → ℕ) → ℕ
or_to zero f = 0
or_to (suc n) f = bit_or (or_to n f) (f n)

-- f 0, .., f (n - 1), one after the other
abbrev pub list_to {ℓ} : {A : Type ℓ} → ℕ → (ℕ → A) → List A
list_to zero f = []
list_to (suc n) f = list_to n f ++ f n ∷ []

-- 0 for 0, else 1: so a sum counts what is not 0
abbrev pub sign : ℕ → ℕ
sign zero = 0
sign (suc x) = 1
