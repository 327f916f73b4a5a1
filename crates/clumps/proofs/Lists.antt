-- Lists joined, numbers that pass a test, and membership, number by number: one more appends it or nothing, and a member stands at a place.
use mathlib.Core.Path.{◌≡◌, refl, sym, ap, ap₂, ◌∙◌}
use mathlib.Core.Bool.{Bool, true, false, cond, true≢false}
use mathlib.Core.List.{List, [], ◌∷◌, ◌++◌, map, map-append, append_assoc, append-nil}
use Prim.Native.Nat.{ℕ, zero, suc, ◌+◌, ◌≤◌, ◌<◌}
use native.Mathlib.Nat.{le_refl}
use native.Mathlib.Decide.{ℕ_discrete}
use native.Mathlib.Numerals.{add-one}
use native.Mathlib.Omega.{arith}
use lib.ListN.{length, get_or, length-append}
use Rattle.chain.specs.Tests.{◌=?◌, ◌or◌}
use Rattle.chain.proofs.Rules.{eq_yes, is_eq, or_left, or_right}
use Rattle.digits.specs.Range.{list_to}
use Rattle.clumps.specs.Lists.{joined, which, only, has}

pub false_or : (t : Bool) → (false or t) ≡ t
unfolding ◌or◌
false_or t = refl

pub or_false : (t : Bool) → (t or false) ≡ t
unfolding ◌or◌
or_false true = refl
or_false false = refl

pub or_assoc : (s t u : Bool) → ((s or t) or u) ≡ (s or (t or u))
unfolding ◌or◌
or_assoc true t u = refl
or_assoc false t u = refl

-- an item that was changed, at its place
pub get_d_map_in : {A B : Type 0} (f : A → B) (l : List A) (i : ℕ) (d : A) (e : B) → i < length l → get_or (map f l) i e ≡ f (get_or l i d)
get_d_map_in f [] i d e h = absurd (omega arith)
get_d_map_in f (x ∷ l) zero d e h = refl
get_d_map_in f (x ∷ l) (suc i) d e h = get_d_map_in f l i d e (omega arith)

pub map-list : {A B : Type 0} (f : A → B) (n : ℕ) (g : ℕ → A) → map f (list_to n g) ≡ list_to n (λ i. f (g i))
map-list f zero g = refl
map-list f (suc n) g = map-append f (list_to n g) (g n ∷ []) ∙ ap (λ l. l ++ f (g n) ∷ []) (map-list f n g)

pub map-joined : {A B : Type 0} (f : A → B) (n : ℕ) (g : ℕ → List A) → map f (joined n g) ≡ joined n (λ i. map f (g i))
map-joined f zero g = refl
map-joined f (suc n) g = map-append f (joined n g) (g n) ∙ ap (λ l. l ++ map f (g n)) (map-joined f n g)

-- lists joined
module _ {A : Type 0} where
  pub joined_same : (n : ℕ) (f g : ℕ → List A) → ((i : ℕ) → i < n → f i ≡ g i) → joined n f ≡ joined n g
  joined_same zero f g e = refl
  joined_same (suc n) f g e = ap₂ ◌++◌ (joined_same n f g (λ i h. e i (omega arith))) (e n (omega arith))

  pub joined_split : (m n : ℕ) (f : ℕ → List A) → joined (m + n) f ≡ joined m f ++ joined n (λ j. f (m + j))
  joined_split m zero f =
      let e : m + 0 ≡ m = omega arith in
      ap (λ (k : ℕ). joined k f) e ∙ sym (append-nil (joined m f))
  joined_split m (suc n) f =
      let e : m + suc n ≡ suc (m + n) = omega arith in
      ap (λ (k : ℕ). joined k f) e
      ∙ ap (λ l. l ++ f (m + n)) (joined_split m n f)
      ∙ append_assoc (joined m f) (joined n (λ j. f (m + j))) (f (m + n))

  pub joined_none : (n : ℕ) (f : ℕ → List A) → ((j : ℕ) → j < n → f j ≡ []) → joined n f ≡ []
  joined_none zero f none = refl
  joined_none (suc n) f none = ap₂ ◌++◌ (joined_none n f (λ j h. none j (omega arith))) (none n (omega arith))

-- numbers that pass a test
pub which_same : (n : ℕ) (s t : ℕ → Bool) → ((x : ℕ) → x < n → s x ≡ t x) → which s n ≡ which t n
which_same n s t e = joined_same n _ _ (λ i h. ap (λ (b : Bool). cond b (i ∷ []) []) (e i h))

module _ (test : ℕ → Bool) (n : ℕ) where
  pub which_yes : test n ≡ true → which test (suc n) ≡ which test n ++ n ∷ []
  which_yes e = rw e

  pub which_no : test n ≡ false → which test (suc n) ≡ which test n
  which_no e = rw e (append-nil (which test n))

  -- the same of n + 1
  pub which_with : test n ≡ true → which test (n + 1) ≡ which test n ++ n ∷ []
  which_with e = rw add-one (which_yes e)

  pub which_without : test n ≡ false → which test (n + 1) ≡ which test n
  which_without e = rw add-one (which_no e)

  -- how many they are grows by one, or not at all
  pub which_count : length (which test (n + 1)) ≡ length (which test n) + cond (test n) 1 0
  which_count = rw add-one (length-append (which test n) (cond (test n) (n ∷ []) []) ∙ ap (λ (k : ℕ). length (which test n) + k) (one (test n)))
    where
      one : (t : Bool) → length (cond t (n ∷ []) []) ≡ cond t 1 0
      one true = refl
      one false = refl

pub which_more : (test : ℕ → Bool) (n d : ℕ) → length (which test n) ≤ length (which test (n + d))
which_more test n zero = let e : n + 0 ≡ n = omega arith in rw e (le_refl (length (which test n)))
which_more test n (suc d) =
    let e : n + suc d ≡ n + d + 1 = omega arith in
    rw e (omega (arith, which_more test n d, which_count test (n + d)))

pub which_none : (test : ℕ → Bool) (n : ℕ) → ((x : ℕ) → x < n → test x ≡ false) → which test n ≡ []
which_none test zero e = refl
which_none test (suc n) e = which_no test n (e n (omega arith)) ∙ which_none test n (λ x h. e x (omega arith))

-- those of a list that pass a test
pub only-append : (test : ℕ → Bool) (u v : List ℕ) → only test (u ++ v) ≡ only test u ++ only test v
only-append test [] v = refl
only-append test (x ∷ u) v = by_test (test x) (only-append test u v)
  where
    by_test : (t : Bool) → only test (u ++ v) ≡ only test u ++ only test v
        → cond t (x ∷ only test (u ++ v)) (only test (u ++ v)) ≡ cond t (x ∷ only test u) (only test u) ++ only test v
    by_test true ih = ap (λ (l : List ℕ). x ∷ l) ih
    by_test false ih = ih

pub only_all : (test : ℕ → Bool) (u : List ℕ) → ((i : ℕ) → i < length u → test (get_or u i 0) ≡ true) → only test u ≡ u
only_all test [] all = refl
only_all test (x ∷ u) all =
    ap (λ (t : Bool). cond t (x ∷ only test u) (only test u)) (all 0 (omega arith))
    ∙ ap (λ (l : List ℕ). x ∷ l) (only_all test u (λ i h. all (suc i) (omega arith)))

pub only_none : (test : ℕ → Bool) (u : List ℕ) → ((i : ℕ) → i < length u → test (get_or u i 0) ≡ false) → only test u ≡ []
only_none test [] none = refl
only_none test (x ∷ u) none =
    ap (λ (t : Bool). cond t (x ∷ only test u) (only test u)) (none 0 (omega arith)) ∙ only_none test u (λ i h. none (suc i) (omega arith))

-- membership
pub has-append : (x : ℕ) (l r : List ℕ) → has x (l ++ r) ≡ (has x l or has x r)
has-append x [] r = sym (false_or (has x r))
has-append x (y ∷ l) r = ap (λ (t : Bool). (x =? y) or t) (has-append x l r) ∙ sym (or_assoc (x =? y) (has x l) (has x r))

pub has_snoc : (x : ℕ) (l : List ℕ) (y : ℕ) → has x (l ++ y ∷ []) ≡ (has x l or (x =? y))
has_snoc x l y = has-append x l (y ∷ []) ∙ ap (λ (t : Bool). has x l or t) (or_false (x =? y))

pub has_joined : (x m : ℕ) (f : ℕ → List ℕ) (j : ℕ) → j < m → has x (f j) ≡ true → has x (joined m f) ≡ true
has_joined x zero f j h e = absurd (omega arith)
has_joined x (suc m) f j h e = has-append x (joined m f) (f m) ∙ by_place (has_joined x m f j) (ℕ_discrete j m)
  where
    by_place : (j < m → has x (f j) ≡ true → has x (joined m f) ≡ true) → Dec (j ≡ m) → (has x (joined m f) or has x (f m)) ≡ true
    by_place ih (yes q) = or_right (has x (joined m f)) _ (ap (λ (k : ℕ). has x (f k)) (sym q) ∙ e)
    by_place ih (no ne) = or_left (has x (joined m f)) _ (ih (omega arith) e)

-- a member stands at a place
pub record Found (x : ℕ) (l : List ℕ) : Type 0 where
  pub place : ℕ
  pub below : place < length l
  pub is : get_or l place 0 ≡ x

pub has_found : (x : ℕ) (l : List ℕ) → has x l ≡ true → Found x l
unfolding ◌or◌
has_found x [] e = absurd (true≢false (sym e))
has_found x (y ∷ l) e = by_first (has_found x l) (x =? y) refl e
  where
    by_first : (has x l ≡ true → Found x l) → (t : Bool) → x =? y ≡ t → t or has x l ≡ true → Found x (y ∷ l)
    by_first ih true is h = record { place = 0; below = omega arith; is = sym (is_eq x y is) }
    by_first ih false is h = let r = ih h in record { place = suc r.place; below = omega (arith, r.below); is = r.is }

pub found_has : (x : ℕ) (l : List ℕ) (i : ℕ) → i < length l → get_or l i 0 ≡ x → has x l ≡ true
found_has x [] i h e = absurd (omega arith)
found_has x (y ∷ l) zero h e = or_left (x =? y) (has x l) (eq_yes x y (sym e))
found_has x (y ∷ l) (suc i) h e = or_right (x =? y) (has x l) (found_has x l i (omega arith) e)
