-- A list over the numbers below a bound has each number's value at its place; one over more numbers goes on where the shorter one ends.
use mathlib.Core.Path.{◌≡◌, refl, sym, ap, ap₂, ◌∙◌}
use mathlib.Core.List.{List, [], ◌∷◌, ◌++◌, append_assoc, append-nil}
use Prim.Native.Nat.{ℕ, zero, suc, ◌+◌, ◌≤◌, ◌<◌}
use native.Mathlib.Decide.{dec_le, dec_lt}
use native.Mathlib.Omega.{arith}
use lib.ListN.{length, get_or, take, length-append, get_or-append}
use lib.Seq.{get_or_at, take_all, take-append-le}
use Rattle.digits.specs.Range.{list_to}

pub length-list {ℓ} : {A : Type ℓ} (n : ℕ) (f : ℕ → A) → length (list_to n f) ≡ n
length-list zero f = refl
length-list (suc n) f = length-append (list_to n f) _ ∙ omega (arith, length-list n f)

pub get_d_list {ℓ} : {A : Type ℓ} (n : ℕ) (f : ℕ → A) (d : A) (j : ℕ) → j < n → get_or (list_to n f) j d ≡ f j
get_d_list zero f d j h = absurd (omega arith)
get_d_list (suc n) f d j h = by_place (get_d_list n f d j) (dec_lt j n)
  where
    by_place : (j < n → get_or (list_to n f) j d ≡ f j) → Dec (j < n) → get_or (list_to n f ++ f n ∷ []) j d ≡ f j
    by_place ih (yes lt) = get_or-append (list_to n f) _ d j (omega (arith, length-list n f)) ∙ ih lt
    by_place ih (no ge) =
        let last : j ≡ n = omega arith in
        rw last (get_or_at (list_to n f) (f n) [] d n (length-list n f))

pub list_same {ℓ} : {A : Type ℓ} (n : ℕ) (f g : ℕ → A) → ((j : ℕ) → j < n → f j ≡ g j) → list_to n f ≡ list_to n g
list_same zero f g e = refl
list_same (suc n) f g e = ap₂ (λ l x. l ++ x ∷ []) (list_same n f g (λ j h. e j (omega arith))) (e n (omega arith))

-- the first m numbers, then n more
pub list_split : (m n : ℕ) (f : ℕ → ℕ) → list_to (m + n) f ≡ list_to m f ++ list_to n (λ j. f (m + j))
list_split m zero f =
    let e : m + 0 ≡ m = omega arith in
    ap (λ (k : ℕ). list_to k f) e ∙ sym (append-nil (list_to m f))
list_split m (suc n) f =
    let e : m + suc n ≡ suc (m + n) = omega arith in
    ap (λ (k : ℕ). list_to k f) e
    ∙ ap (λ (l : List ℕ). l ++ f (m + n) ∷ []) (list_split m n f)
    ∙ append_assoc (list_to m f) (list_to n (λ j. f (m + j))) (f (m + n) ∷ [])

-- the first m of n numbers
pub take-list : (n : ℕ) (f : ℕ → ℕ) (m : ℕ) → m ≤ n → take m (list_to n f) ≡ list_to m f
take-list zero f m h =
    let none : m ≡ 0 = omega arith in
    rw none
take-list (suc n) f m h = by_size (take-list n f m) (dec_le m n)
  where
    by_size : (m ≤ n → take m (list_to n f) ≡ list_to m f) → Dec (m ≤ n) → take m (list_to (suc n) f) ≡ list_to m f
    by_size ih (yes le) = take-append-le m (list_to n f) (f n ∷ []) (omega (arith, length-list n f)) ∙ ih le
    by_size ih (no gt) =
        let all : m ≡ suc n = omega arith in
        rw all (take_all (suc n) (list_to (suc n) f) (omega (arith, length-list (suc n) f)))
