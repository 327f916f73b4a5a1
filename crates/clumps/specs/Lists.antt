-- Lists of indices: joined, chosen by a test, looked into, and put in order.
use Rattle.std.specs.Prelude.{Bool, true, false, ◌&&◌, cond, List, [], ◌∷◌, ◌++◌, ℕ, zero, suc, length, get_or}
use Rattle.chain.specs.Tests.{◌<?◌, ◌=?◌, ◌or◌}

-- f 0, f 1, .. f (n - 1), one after the other
abbrev pub joined {ℓ} : {A : Type ℓ} → ℕ → (ℕ → List A) → List A
joined zero f = []
joined (suc n) f = joined n f ++ f n

-- the numbers below n that pass a test, rising
abbrev pub which : (ℕ → Bool) → ℕ → List ℕ
which test n = joined n (λ i. cond (test i) (i ∷ []) [])

-- one of the numbers below n passes a test
abbrev pub some_below : (ℕ → Bool) → ℕ → Bool
some_below test zero = false
some_below test (suc n) = some_below test n or test n

-- those of a list that pass a test
abbrev pub only : (ℕ → Bool) → List ℕ → List ℕ
only test [] = []
only test (x ∷ r) = cond (test x) (x ∷ only test r) (only test r)

-- an item is among those of a list, as a test of equal items tells
abbrev pub among : {A : Type 0} → (A → A → Bool) → A → List A → Bool
among same x [] = false
among same x (y ∷ r) = same x y or among same x r

-- x is a member
abbrev pub has : ℕ → List ℕ → Bool
has x s = among ◌=?◌ x s

-- which of some lists have x as a member, rising
abbrev pub having : List (List ℕ) → ℕ → List ℕ
having lists x = which (λ j. has x (get_or lists j [])) (length lists)

-- equal members
abbrev pub equal : List ℕ → List ℕ → Bool
equal [] [] = true
equal [] (y ∷ v) = false
equal (x ∷ u) [] = false
equal (x ∷ u) (y ∷ v) = (x =? y) && equal u v

-- one of some lists has just these members
abbrev pub holds : List ℕ → List (List ℕ) → Bool
holds u l = among equal u l

-- by the first member, then the second, and so on
abbrev pub precedes : List ℕ → List ℕ → Bool
precedes [] [] = false
precedes [] (y ∷ v) = true
precedes (x ∷ u) [] = false
precedes (x ∷ u) (y ∷ v) = x <? y or ((x =? y) && precedes u v)

-- u before the first that it precedes
abbrev pub insert : List ℕ → List (List ℕ) → List (List ℕ)
insert u [] = u ∷ []
insert u (v ∷ r) = cond (precedes u v) (u ∷ v ∷ r) (v ∷ insert u r)

-- u in its place, unless it is there
abbrev pub enter : List ℕ → List (List ℕ) → List (List ℕ)
enter u d = cond (holds u d) d (insert u d)

-- one after the other
abbrev pub entered : List (List ℕ) → List (List ℕ) → List (List ℕ)
entered d [] = d
entered d (u ∷ r) = entered (enter u d) r
