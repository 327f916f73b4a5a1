-- Clumps that stand in order as their keys do: entered one after the other they are those of the different keys, rising. One that is there already is
-- so by its key; another goes behind those of lower keys and before the rest.
use mathlib.Core.Path.{◌≡◌, refl, sym, ap, ap₂, subst, ◌∙◌}
use mathlib.Core.Bool.{Bool, true, false, cond, true≢false}
use mathlib.Core.List.{List, [], ◌∷◌, ◌++◌, map, map-append, append_assoc}
use Prim.Native.Nat.{ℕ, zero, suc, ◌+◌, ◌-◌, ◌≤◌, ◌<◌}
use native.Mathlib.Decide.{ℕ_discrete}
use native.Mathlib.Omega.{arith}
use Rattle.chain.specs.Tests.{◌<?◌, ◌=?◌, ◌or◌}
use Rattle.chain.proofs.Rules.{lt_yes, lt_no, eq_yes, eq_no, or_left, or_right}
use Rattle.clumps.proofs.Lists.{false_or, or_false, or_assoc, joined_same, joined_split, which_same, which_none}
use Rattle.clumps.proofs.Chosen.{has_chosen}
use Rattle.clumps.specs.Lists.{joined, which, has, holds, equal, precedes, insert, enter, entered}

-- each member of a list
abbrev pub Every : {A : Type 0} → (A → Type 0) → List A → Type 0
Every P [] = Unit
Every P (x ∷ l) = P x × Every P l

pub every_append : {A : Type 0} (P : A → Type 0) (l r : List A) → Every P l → Every P r → Every P (l ++ r)
every_append P [] r a b = b
every_append P (x ∷ l) r a b = (a.0, every_append P l r a.1 b)

every_some : (P : ℕ → Type 0) (t : Bool) (x : ℕ) → (t ≡ true → P x) → Every P (cond t (x ∷ []) [])
every_some P true x h = (h refl, tt)
every_some P false x h = tt

-- of numbers chosen by a test, from m on
every_chosen : (P : ℕ → Type 0) (test : ℕ → Bool) (m n : ℕ) → ((i : ℕ) → m ≤ i → i < m + n → test i ≡ true → P i)
    → Every P (joined n (λ j. cond (test (m + j)) ((m + j) ∷ []) []))
every_chosen P test m zero h = tt
every_chosen P test m (suc n) h =
    every_append P (joined n (λ j. cond (test (m + j)) ((m + j) ∷ []) [])) _ (every_chosen P test m n (λ i a b. h i a (omega arith)))
    (every_some P (test (m + n)) (m + n) (h (m + n) (omega arith) (omega arith)))

every_below : (P : ℕ → Type 0) (test : ℕ → Bool) (n : ℕ) → ((i : ℕ) → i < n → test i ≡ true → P i) → Every P (which test n)
every_below P test zero h = tt
every_below P test (suc n) h =
    every_append P (which test n) _ (every_below P test n (λ i a. h i (omega arith))) (every_some P (test n) n (h n (omega arith)))

module _ (decode : ℕ → List ℕ) (Good : ℕ → Type 0) (order : (x y : ℕ) → Good x → Good y → precedes (decode x) (decode y) ≡ (x <? y))
    (tells : (x y : ℕ) → Good x → Good y → equal (decode x) (decode y) ≡ (x =? y)) where
  -- a clump is there if its key is
  pub key_there : (x : ℕ) (l : List ℕ) → Good x → Every Good l → holds (decode x) (map decode l) ≡ has x l
  key_there x [] g e = refl
  key_there x (y ∷ l) g e = ap₂ ◌or◌ (tells x y g e.0) (key_there x l g e.1)

  behind_lower : (x : ℕ) (l : List ℕ) (r : List (List ℕ)) → Good x → Every Good l → Every (λ y. y < x) l
      → insert (decode x) (map decode l ++ r) ≡ map decode l ++ insert (decode x) r
  behind_lower x [] r g e low = refl
  behind_lower x (y ∷ l) r g e low =
      rw (order x y g e.0, lt_no x y (omega (arith, low.0))) (ap (λ t. decode y ∷ t) (behind_lower x l r g e.1 low.1))

  before_higher : (x : ℕ) (l : List ℕ) → Good x → Every Good l → Every (λ y. x < y) l → insert (decode x) (map decode l) ≡ decode x ∷ map decode l
  before_higher x [] g e high = refl
  before_higher x (y ∷ l) g e high = rw (order x y g e.0, lt_yes x y high.0)

  -- one more
  module _ (test : ℕ → Bool) (n x : ℕ) (below : x < n) (good : (i : ℕ) → i < n → test i ≡ true → Good i) (own : Good x) where
    abbrev more : ℕ → Bool
    more i = test i or (i =? x)

    other : (i : ℕ) → (i ≡ x → ⊥) → test i ≡ more i
    other i ne = sym (ap (λ (b : Bool). test i or b) (eq_no i x ne) ∙ or_false (test i))

    enter_old : test x ≡ true → which test n ≡ which more n
    enter_old h = which_same n test more (λ i g. by_place i (ℕ_discrete i x))
      where
        by_place : (i : ℕ) → Dec (i ≡ x) → test i ≡ more i
        by_place i (yes e) = ap test e ∙ h ∙ sym (or_left (test i) _ (ap test e ∙ h))
        by_place i (no ne) = other i ne

    -- those above x, and all of them by that
    abbrev above : (ℕ → Bool) → List ℕ
    above t = joined (n - suc x) (λ j. cond (t (suc x + j)) ((suc x + j) ∷ []) [])

    parted : (t : ℕ → Bool) → which t n ≡ which t x ++ (cond (t x) (x ∷ []) [] ++ above t)
    parted t =
        let e : n ≡ suc x + (n - suc x) = omega arith in
        ap (which t) e ∙ joined_split (suc x) (n - suc x) _ ∙ append_assoc (which t x) (cond (t x) (x ∷ []) []) (above t)

    enter_new : test x ≡ false → insert (decode x) (map decode (which test n)) ≡ map decode (which more n)
    enter_new h =
        ap (λ l. insert (decode x) (map decode l)) (parted test ∙ ap (λ (b : Bool). which test x ++ (cond b (x ∷ []) [] ++ above test)) h)
        ∙ ap (insert (decode x)) (map-append decode (which test x) (above test))
        ∙ behind_lower x (which test x) (map decode (above test)) own lower_good lower
        ∙ ap (λ l. map decode (which test x) ++ l) (before_higher x (above test) own higher_good higher)
        ∙ sym (map-append decode (which test x) (x ∷ above test))
        ∙ ap (map decode) (sym (parted more ∙ ap₂ ◌++◌ low (ap₂ (λ (b : Bool) (l : List ℕ). cond b (x ∷ []) [] ++ l) here high)))
      where
        lower_good : Every Good (which test x)
        lower_good = every_below Good test x (λ i g k. good i (omega arith) k)

        lower : Every (λ y. y < x) (which test x)
        lower = every_below (λ y. y < x) test x (λ i g k. g)

        higher_good : Every Good (above test)
        higher_good = every_chosen Good test (suc x) (n - suc x) (λ i a b k. good i (omega arith) k)

        higher : Every (λ y. x < y) (above test)
        higher = every_chosen (λ y. x < y) test (suc x) (n - suc x) (λ i a b k. omega arith)

        low : which more x ≡ which test x
        low = sym (which_same x test more (λ i g. other i (λ e. omega arith)))

        here : more x ≡ true
        here = or_right (test x) _ (eq_yes x x refl)

        high : above more ≡ above test
        high = sym (joined_same (n - suc x) _ _ (λ j g. ap (λ (b : Bool). cond b ((suc x + j) ∷ []) []) (other (suc x + j) (λ e. omega arith))))

    pub enter_is : enter (decode x) (map decode (which test n)) ≡ map decode (which more n)
    enter_is = by_test (test x) refl
      where
        there : holds (decode x) (map decode (which test n)) ≡ test x
        there = key_there x (which test n) own (every_below Good test n good) ∙ has_chosen test n x below

        by_test : (b : Bool) → test x ≡ b → enter (decode x) (map decode (which test n)) ≡ map decode (which more n)
        by_test true e = rw (there, e) (ap (map decode) (enter_old e))
        by_test false e = rw (there, e) (enter_new e)

  entered_from : (n : ℕ) (test : ℕ → Bool) (keys : List ℕ) → ((i : ℕ) → i < n → test i ≡ true → Good i) → Every Good keys → Every (λ x. x < n) keys
      → entered (map decode (which test n)) (map decode keys) ≡ map decode (which (λ i. test i or has i keys) n)
  entered_from n test [] good goods low = ap (map decode) (which_same n _ _ (λ i h. sym (or_false (test i))))
  entered_from n test (x ∷ keys) good goods low =
      ap (λ d. entered d (map decode keys)) (enter_is test n x low.0 good goods.0)
      ∙ entered_from n (λ i. test i or (i =? x)) keys (λ i h k. by_place i h k (ℕ_discrete i x)) goods.1 low.1
      ∙ ap (map decode) (which_same n _ _ (λ i h. or_assoc (test i) (i =? x) (has i keys)))
    where
      by_place : (i : ℕ) → i < n → (test i or (i =? x)) ≡ true → Dec (i ≡ x) → Good i
      by_place i h k (yes e) = subst Good (sym e) goods.0
      by_place i h k (no ne) = good i h (sym (or_false (test i)) ∙ ap (λ (b : Bool). test i or b) (sym (eq_no i x ne)) ∙ k)

  -- all of them are those of the different keys, rising
  pub entered_is : (n : ℕ) (keys : List ℕ) → Every Good keys → Every (λ x. x < n) keys → entered [] (map decode keys) ≡ map decode (which (λ i. has i keys) n)
  entered_is n keys goods low =
      ap (λ l. entered (map decode l) (map decode keys)) (sym (which_none (λ i. false) n (λ i h. refl)))
      ∙ entered_from n (λ i. false) keys (λ i h e. absurd (true≢false (sym e))) goods low
      ∙ ap (map decode) (which_same n _ _ (λ i h. false_or (has i keys)))
