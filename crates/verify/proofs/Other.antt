-- The first payslip that differs is decided by those up to it, and only by what the scratch has at the outputs.
use mathlib.Core.Path.{◌≡◌, refl, sym, ap, ap₂, ◌∙◌}
use mathlib.Core.Bool.{Bool, true, false, cond}
use mathlib.Core.List.{List, [], ◌∷◌}
use Prim.Native.Nat.{ℕ, zero, suc, ◌+◌, ◌≤◌, ◌<◌}
use native.Mathlib.Omega.{arith}
use lib.ListN.{length, get_or, drop, drop_of_length-le}
use lib.Seq.{drop-cons}
use Rattle.chain.specs.Tests.{◌=?◌}
use Rattle.chain.specs.Written.{over}
use Rattle.chain.proofs.Rules.{eq_yes, eq_no, is_eq}
use Rattle.chain.proofs.Written.{over_get_d}
use Rattle.sheet.specs.Sheet.{amount}
use Rattle.verify.specs.Verify.{other_or, first_other}

module _ (x y s later : ℕ) where
  pub other_no : x ≡ y → other_or x y s later ≡ later
  unfolding other_or
  other_no h = rw (eq_yes x y h)

  pub other_yes : (x ≡ y → ⊥) → other_or x y s later ≡ s
  unfolding other_or
  other_yes h = rw (eq_no x y h)

  -- no place is found only where none is later and the numbers are equal
  pub other_neither : (s ≡ 0 → ⊥) → other_or x y s later ≡ 0 → (x ≡ y) × (later ≡ 0)
  unfolding other_or
  other_neither some = by_test (x =? y) refl
    where
      by_test : (t : Bool) → x =? y ≡ t → cond t later s ≡ 0 → (x ≡ y) × (later ≡ 0)
      by_test true u e = (is_eq x y u, e)
      by_test false u e = absurd (some e)

-- what is left to find from payslip i on
unfoldable pub other_left : ℕ → ℕ → List ℕ → List ℕ → List ℕ → ℕ → ℕ
other_left p c amounts es l i = first_other p c amounts es i (drop i l)

module _ (p c : ℕ) (amounts es l : List ℕ) where
  pub other_start : first_other p c amounts es 0 l ≡ other_left p c amounts es l 0
  unfolding other_left
  other_start = refl

  module _ (i : ℕ) where
    next : i < length l
        → other_left p c amounts es l i ≡ other_or (get_or es (get_or l i 0) 0) (amount p amounts i c) (i + 1) (other_left p c amounts es l (i + 1))
    unfolding other_left
    next h =
        let e : i + 1 ≡ suc i = omega arith in
        rw e (ap (first_other p c amounts es i) (drop-cons l i 0 h))

  -- `f` is the first place of all, `a` payslip i's amount
  module _ (i a f : ℕ) where
    pub other_on : i < length l → a ≡ amount p amounts i c → get_or es (get_or l i 0) 0 ≡ a → f ≡ other_left p c amounts es l i
        → f ≡ other_left p c amounts es l (i + 1)
    other_on h d same e = e ∙ next i h ∙ other_no _ _ _ _ (same ∙ d)

    pub other_bad : i < length l → a ≡ amount p amounts i c → (get_or es (get_or l i 0) 0 ≡ a → ⊥) → f ≡ other_left p c amounts es l i → i + 1 ≡ f
    other_bad h d differs e = sym (e ∙ next i h ∙ other_yes _ _ _ _ (λ z. differs (z ∙ sym d)))

  module _ (i f : ℕ) where
    pub other_end : length l ≤ i → f ≡ other_left p c amounts es l i → 0 ≡ f
    unfolding other_left
    other_end h e = sym (e ∙ rw (drop_of_length-le l h))

pub ruleset comparing = (other_start, other_on, other_bad, other_end)

-- each output's exponent is its amount
pub other_none : (p c : ℕ) (amounts es : List ℕ) (k : ℕ) (l : List ℕ) → first_other p c amounts es k l ≡ 0
    → (i : ℕ) → i < length l → get_or es (get_or l i 0) 0 ≡ amount p amounts (k + i) c
other_none p c amounts es k [] e i h = absurd (omega arith)
other_none p c amounts es k (o ∷ l) e zero h =
    let z : k + 0 ≡ k = omega arith in
    rw z (other_neither (get_or es o 0) (amount p amounts k c) (suc k) _ (λ z. omega arith) e).0
other_none p c amounts es k (o ∷ l) e (suc i) h =
    let z : k + suc i ≡ suc k + i = omega arith in
    rw z
    (other_none p c amounts es (suc k) l (other_neither (get_or es o 0) (amount p amounts k c) (suc k) _ (λ z. omega arith) e).1 i (omega arith))

pub none_other : (p c : ℕ) (amounts es : List ℕ) (k : ℕ) (l : List ℕ)
    → ((i : ℕ) → i < length l → get_or es (get_or l i 0) 0 ≡ amount p amounts (k + i) c) → first_other p c amounts es k l ≡ 0
none_other p c amounts es k [] h = refl
none_other p c amounts es k (o ∷ l) h =
    let z : k + 0 ≡ k = omega arith in
    other_no _ _ _ _ (rw z at (h 0 (omega arith)))
    ∙ none_other p c amounts es (suc k) l
    (λ i g.
    let z : suc k + i ≡ k + suc i = omega arith in
    rw z (h (suc i) (omega arith)))

-- exponents read off a slice whose front they are
pub other_over : (p c : ℕ) (amounts es old : List ℕ) (k : ℕ) (l : List ℕ) → ((i : ℕ) → i < length l → get_or l i 0 < length es)
    → first_other p c amounts (over es old) k l ≡ first_other p c amounts es k l
other_over p c amounts es old k [] low = refl
other_over p c amounts es old k (o ∷ l) low =
    ap₂ (λ (x later : ℕ). other_or x (amount p amounts k c) (suc k) later) (over_get_d es old o (low 0 (omega arith)))
    (other_over p c amounts es old (suc k) l (λ i g. low (suc i) (omega arith)))
