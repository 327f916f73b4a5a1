-- How often an item stands in a list is a sum. Entered one after the other, an item stands once if it is there at all; so a sum over one list can be
-- gathered from another that has each of its items once.
use mathlib.Core.Path.{◌≡◌, refl, sym, ap, ap₂, ◌∙◌}
use mathlib.Core.Bool.{Bool, true, false, ◌&&◌, cond, true≢false}
use mathlib.Core.List.{List, [], ◌∷◌}
use Prim.Native.Nat.{ℕ, zero, suc, ◌+◌, ◌*◌, ◌≤◌, ◌<◌, zero-le}
use native.Mathlib.Nat.{add-mul, mul-one, mul_comm, one-mul, zero-mul}
use native.Mathlib.Omega.{arith}
use lib.ListN.{length, get_or}
use Rattle.chain.specs.Tests.{◌=?◌, ◌or◌}
use Rattle.chain.proofs.Rules.{eq_yes, is_eq}
use Rattle.digits.specs.Range.{sign}
use Rattle.digits.proofs.Range.{sign-add, sign_low, sign_some, sign_pos, sign_sign}
use Rattle.clumps.specs.Lists.{among, equal, holds, precedes, insert, enter, entered}
use Rattle.clumps.proofs.Totals.{bit, total, total_same, total_zero, total_add, total_mul}

-- a test that tells equal items
pub record Tells {A : Type 0} (same : A → A → Bool) : Type 0 where
  pub own : (x : A) → same x x ≡ true
  pub sound : (x y : A) → same x y ≡ true → x ≡ y

pub number_tells : Tells ◌=?◌
number_tells = record { own = λ x. eq_yes x x refl; sound = is_eq }

and_both : (s t : Bool) → s && t ≡ true → (s ≡ true) × (t ≡ true)
and_both true t e = (refl, e)
and_both false t e = absurd (true≢false (sym e))

equal_own : (u : List ℕ) → equal u u ≡ true
equal_own [] = refl
equal_own (x ∷ u) = rw (eq_yes x x refl) (equal_own u)

equal_sound : (u v : List ℕ) → equal u v ≡ true → u ≡ v
equal_sound [] [] e = refl
equal_sound [] (y ∷ v) e = absurd (true≢false (sym e))
equal_sound (x ∷ u) [] e = absurd (true≢false (sym e))
equal_sound (x ∷ u) (y ∷ v) e =
    let b = and_both (x =? y) (equal u v) e in
    ap₂ ◌∷◌ (is_eq x y b.0) (equal_sound u v b.1)

pub members_tell : Tells equal
members_tell = record { own = equal_own; sound = equal_sound }

-- how often x stands in a list
abbrev pub often : {A : Type 0} → (A → A → Bool) → A → List A → ℕ
often same x l = total (λ y. bit (same x y)) l

pub bit_or : (s t : Bool) → bit (s or t) ≡ sign (bit s + bit t)
unfolding ◌or◌
bit_or true t = sym (sign_some (1 + bit t) (omega arith))
bit_or false true = refl
bit_or false false = refl

-- a number of at most 1
pub sign_once : (n : ℕ) → n ≤ 1 → sign n ≡ n
sign_once zero h = refl
sign_once (suc n) h = omega arith

module _ {A : Type 0} (same : A → A → Bool) where
  pub among_often : (x : A) (l : List A) → bit (among same x l) ≡ sign (often same x l)
  among_often x [] = refl
  among_often x (y ∷ l) =
      let b : ℕ = bit (same x y) in
      let r : ℕ = often same x l in
      bit_or (same x y) (among same x l)
      ∙ omega (arith, sign-add b (bit (among same x l)), sign-add b r, ap sign (among_often x l), sign_sign r)

  module _ (tells : Tells same) where
    -- in either order
    turned : (x y : A) → bit (same x y) ≡ bit (same y x)
    turned x y = by_test (same x y) refl (same y x) refl
      where
        by_test : (s : Bool) → same x y ≡ s → (t : Bool) → same y x ≡ t → bit (same x y) ≡ bit (same y x)
        by_test true e true f = rw (e, f)
        by_test false e false f = rw (e, f)
        by_test true e false f = let is = tells.sound x y e in absurd (true≢false (sym (tells.own y) ∙ ap (same y) (sym is) ∙ f))
        by_test false e true f = let is = tells.sound y x f in absurd (true≢false (sym (tells.own x) ∙ ap (same x) (sym is) ∙ e))

    -- where two are the same, so is what a function makes of them
    alike : (w : A → ℕ) (x y : A) → bit (same x y) * w x ≡ bit (same x y) * w y
    alike w x y = by_test (same x y) refl
      where
        by_test : (s : Bool) → same x y ≡ s → bit s * w x ≡ bit s * w y
        by_test true e = ap (λ (z : A). 1 * w z) (tells.sound x y e)
        by_test false e = zero-mul (w x) ∙ sym (zero-mul (w y))

    pub often_first : (x : A) (l : List A) → 0 < often same x (x ∷ l)
    often_first x l = let one : bit (same x x) ≡ 1 = ap bit (tells.own x) in omega arith

    pub often_item : (l : List A) (d : A) (i : ℕ) → i < length l → 0 < often same (get_or l i d) l
    often_item [] d i h = absurd (omega arith)
    often_item (y ∷ l) d zero h = often_first y l
    often_item (y ∷ l) d (suc i) h = omega (arith, often_item l d i (omega arith))

    -- the part that an item has in a sum
    pub often_part : (w : A → ℕ) (x : A) (l : List A) → often same x l * w x ≤ total w l
    often_part w x [] = rw (zero-mul (w x)) zero-le
    often_part w x (y ∷ l) =
        let one : bit (same x y) * w x ≤ w y = part y (same x y) (alike w x y) in
        omega (arith, add-mul (bit (same x y)) (often same x l) (w x), often_part w x l)
      where
        part : (y : A) (t : Bool) → bit t * w x ≡ bit t * w y → bit t * w x ≤ w y
        part y true e = omega (arith, one-mul (w y))
        part y false e = omega (arith, zero-mul (w x))

    pub often_le : (w : A → ℕ) (x : A) (l : List A) → 0 < often same x l → w x ≤ total w l
    often_le w x l h = by_number (often same x l) h (often_part w x l)
      where
        by_number : (n : ℕ) → 0 < n → n * w x ≤ total w l → w x ≤ total w l
        by_number zero h le = absurd (omega arith)
        by_number (suc n) h le = omega (arith, add-mul n 1 (w x), one-mul (w x))

    -- the sum over one list, gathered from another that has each of its items once
    pub gather : (w : A → ℕ) (few all : List A) → ((x : A) → 0 < often same x few → often same x all ≡ 1)
        → total (λ x. often same x few * w x) all ≡ total w few
    gather w [] all once = total_zero _ all (λ x. zero-mul (w x))
    gather w (y ∷ few) all once =
        total_same _ _ all (λ x. add-mul (bit (same x y)) (often same x few) (w x))
        ∙ total_add (λ x. bit (same x y) * w x) (λ x. often same x few * w x) all
        ∙ ap₂ ◌+◌ one (gather w few all (λ x h. once x (omega arith)))
      where
        one : total (λ x. bit (same x y) * w x) all ≡ w y
        one =
            total_same _ _ all (λ x. alike w x y ∙ ap (λ (b : ℕ). b * w y) (turned x y) ∙ mul_comm (bit (same y x)) (w y))
            ∙ total_mul (λ x. bit (same y x)) (w y) all
            ∙ ap (λ (n : ℕ). w y * n) (once y (often_first y few))
            ∙ mul-one (w y)

-- what an item inserted adds to a sum
pub total_insert : (f : List ℕ → ℕ) (u : List ℕ) (d : List (List ℕ)) → total f (insert u d) ≡ f u + total f d
total_insert f u [] = refl
total_insert f u (v ∷ d) = by_test (precedes u v) (total_insert f u d)
  where
    by_test : (t : Bool) → total f (insert u d) ≡ f u + total f d → total f (cond t (u ∷ v ∷ d) (v ∷ insert u d)) ≡ f u + (f v + total f d)
    by_test true e = refl
    by_test false e = omega arith

-- one entered
often_enter : (u v : List ℕ) (d : List (List ℕ)) → ((x : List ℕ) → often equal x d ≤ 1)
    → often equal u (enter v d) ≡ sign (bit (equal u v) + often equal u d)
often_enter u v d once = by_test (holds v d) (among_often equal v d) (equal u v) refl
  where
    k : ℕ
    k = often equal u d

    inserted : often equal u (insert v d) ≡ bit (equal u v) + k
    inserted = total_insert (λ y. bit (equal u y)) v d

    by_test : (t : Bool) → bit t ≡ sign (often equal v d) → (s : Bool) → equal u v ≡ s → often equal u (cond t d (insert v d)) ≡ sign (bit s + k)
    by_test true n true f =
        let mine : sign k ≡ 1 = ap (λ (z : List ℕ). sign (often equal z d)) (equal_sound u v f) ∙ sym n in
        omega (arith, once u, sign_pos k mine, sign_some (1 + k) (omega arith))
    by_test false n true f =
        let mine : sign k ≡ 0 = ap (λ (z : List ℕ). sign (often equal z d)) (equal_sound u v f) ∙ sym n in
        omega (arith, inserted, ap bit f, sign_once k (once u), sign_some (1 + k) (omega arith))
    by_test true n false f = let e : 0 + k ≡ k = omega arith in sym (ap sign e ∙ sign_once k (once u))
    by_test false n false f = let e : 0 + k ≡ k = omega arith in omega (arith, inserted, ap bit f, ap sign e, sign_once k (once u))

often_entered : (u : List ℕ) (l d : List (List ℕ)) → ((x : List ℕ) → often equal x d ≤ 1)
    → often equal u (entered d l) ≡ sign (often equal u d + often equal u l)
often_entered u [] d once = let e : often equal u d + 0 ≡ often equal u d = omega arith in sym (ap sign e ∙ sign_once (often equal u d) (once u))
often_entered u (v ∷ l) d once =
    let b : ℕ = bit (equal u v) in
    let k : ℕ = often equal u d in
    let r : ℕ = often equal u l in
    often_entered u l (enter v d) (λ x. rw (often_enter x v d once) (sign_low (bit (equal x v) + often equal x d)))
    ∙ ap (λ (m : ℕ). sign (m + r)) (often_enter u v d once)
    ∙ omega (arith, sign-add (sign (b + k)) r, sign_sign (b + k), sign-add b k, sign-add k (b + r), sign-add b r)

-- entered one after the other, each stands once
pub often_order : (u : List ℕ) (l : List (List ℕ)) → often equal u (entered [] l) ≡ sign (often equal u l)
often_order u l = let e : 0 + often equal u l ≡ often equal u l = omega arith in often_entered u l [] (λ x. zero-le) ∙ ap sign e
