-- A number is an odd one times a power of two, whose exponent its trailing zeros count. So its lowest digit that is not 0 is where they end: the digits
-- below are 0, and that one is an odd number shifted by less than the digit's width.
use mathlib.Core.Path.{◌≡◌, refl, sym, ap, ◌∙◌}
use mathlib.Core.Bool.{Bool, true, false}
use Prim.Native.Nat.{ℕ, zero, suc, ◌+◌, ◌-◌, ◌*◌, ◌/◌, ◌%◌, ◌^◌, ◌≤◌, ◌<◌, zero-le}
use native.Mathlib.Nat.{le_refl, add_comm, add-zero, mul_assoc, mul-add, mul-one, mul-suc, pow-suc, zero-mod, mul-mod_left, mod-lt, div-eq_of_lt, div-one, div-add-mod}
use native.Mathlib.Decide.{dec_lt, ℕ_discrete}
use native.Mathlib.Omega.{arith}
use lib.Count.{under, count_trailing_zeros}
use lib.Pow.{pow-add, shl-shr, split}
use Rattle.chain.specs.Tests.{◌=?◌}
use Rattle.chain.proofs.Rules.{not_eq, is_eq}
use Rattle.digits.specs.Digits.{digit_count, digit}
use Rattle.digits.proofs.Count.{count_low, count_own}
use Rattle.tables.specs.Table.{lowest_from, lowest}

-- t is m times 2^z, and m is odd
record Shifted (t m z : ℕ) : Type 0 where
  pub is : t ≡ m * 2 ^ z
  pub odd : m % 2 ≡ 1

odd_part : (w t : ℕ) → 0 < t → t < 2 ^ w → (m : ℕ) × Shifted t m (count_trailing_zeros w t)
unfolding count_trailing_zeros
odd_part zero t some low = absurd (omega arith)
odd_part (suc w) t some low = by_last (λ h l. odd_part w (t / 2) h l) (t % 2) refl
  where
    twice : (m z : ℕ) → t % 2 ≡ 0 → t / 2 ≡ m * 2 ^ z → t ≡ m * 2 ^ suc z
    twice m z e h =
        let even : t ≡ t / 2 * 2 = omega arith in
        even ∙ ap (λ (x : ℕ). x * 2) h ∙ mul_assoc m (2 ^ z) 2 ∙ ap (λ (x : ℕ). m * x) (sym (pow-suc 2 z))

    by_last : (0 < t / 2 → t / 2 < 2 ^ w → (m : ℕ) × Shifted (t / 2) m (count_trailing_zeros w (t / 2))) → (d : ℕ) → t % 2 ≡ d
        → (m : ℕ) × Shifted t m (under d (count_trailing_zeros w (t / 2)))
    by_last ih zero e =
        let half = ih (omega arith) (omega (arith, pow-suc 2 w)) in
        (half.0, record { is = twice half.0 _ e half.1.is; odd = half.1.odd })
    by_last ih (suc d) e = (t, record { is = sym (mul-one t); odd = omega (arith, mod-lt t {m = 2} (omega arith)) })

-- the digits of such a number
module _ (k m : ℕ) where
  shift_on : (a b : ℕ) → m * 2 ^ (a + b) ≡ m * 2 ^ b * 2 ^ a
  shift_on a b = ap (λ (n : ℕ). m * n) (ap (λ (e : ℕ). 2 ^ e) (add_comm a b) ∙ pow-add 2 b a) ∙ sym (mul_assoc m (2 ^ b) (2 ^ a))

  digit_on : (j r : ℕ) → digit k (m * 2 ^ (k * j + r)) j ≡ m * 2 ^ r % 2 ^ k
  digit_on j r = ap (λ (n : ℕ). n / 2 ^ (k * j) % 2 ^ k) (shift_on (k * j) r) ∙ ap (λ (n : ℕ). n % 2 ^ k) (shl-shr (m * 2 ^ r) (k * j))

  -- 0 where the shift takes up the whole digit
  below : (i d r : ℕ) → digit k (m * 2 ^ (k * (i + suc d) + r)) i ≡ 0
  below i d r =
      ap (λ (e : ℕ). digit k (m * 2 ^ e) i) place
      ∙ digit_on i (k + (k * d + r))
      ∙ ap (λ (n : ℕ). n % 2 ^ k) (shift_on k (k * d + r))
      ∙ mul-mod_left (m * 2 ^ (k * d + r)) (2 ^ k)
    where
      place : k * (i + suc d) + r ≡ k * i + (k + (k * d + r))
      place = omega (arith, mul-add k i (suc d), mul-suc k d)

  -- and else not: what is odd is no multiple of two
  within : (r rest : ℕ) → m % 2 ≡ 1 → k ≡ suc rest + r → m * 2 ^ r % 2 ^ k ≡ 0 → ⊥
  within r rest odd width e = omega (arith, ap (λ (n : ℕ). n % 2) even, mul-mod_left (q * 2 ^ rest) 2)
    where
      q : ℕ
      q = m * 2 ^ r / 2 ^ k

      whole : m * 2 ^ r ≡ q * 2 ^ suc rest * 2 ^ r
      whole =
          sym (split (m * 2 ^ r) k)
          ∙ ap (λ (n : ℕ). q * 2 ^ k + n) e
          ∙ add-zero (q * 2 ^ k)
          ∙ ap (λ (n : ℕ). q * n) (ap (λ (w : ℕ). 2 ^ w) width ∙ pow-add 2 (suc rest) r)
          ∙ sym (mul_assoc q (2 ^ suc rest) (2 ^ r))

      even : m ≡ q * 2 ^ rest * 2
      even =
          sym (shl-shr m r)
          ∙ ap (λ (n : ℕ). n / 2 ^ r) whole
          ∙ shl-shr (q * 2 ^ suc rest) r
          ∙ ap (λ (n : ℕ). q * n) (pow-suc 2 rest)
          ∙ sym (mul_assoc q (2 ^ rest) 2)

-- a digit that is not 0, above none but zeros, is the one that is sought
sought : (f k t i j : ℕ) → i ≤ j → j < i + f → ((a : ℕ) → i ≤ a → a < j → digit k t a ≡ 0) → (digit k t j ≡ 0 → ⊥) → lowest_from f k t i ≡ j
sought zero k t i j le room zeros some = absurd (omega arith)
sought (suc f) k t i j le room zeros some =
    by_digit (λ h. sought f k t (suc i) j h (omega arith) (λ a g l. zeros a (omega arith) l) some) (digit k t i =? 0) refl
  where
    by_digit : (suc i ≤ j → lowest_from f k t (suc i) ≡ j) → (b : Bool) → (digit k t i =? 0) ≡ b → lowest_from (suc f) k t i ≡ j
    by_digit ih true u = rw (u, lowest_from) (ih (by_place (ℕ_discrete i j)))
      where
        by_place : Dec (i ≡ j) → suc i ≤ j
        by_place (yes same) = absurd (some (ap (digit k t) (sym same) ∙ is_eq (digit k t i) 0 u))
        by_place (no other) = omega arith
    by_digit ih false u = rw (u, lowest_from) (here (dec_lt i j))
      where
        here : Dec (i < j) → i ≡ j
        here (yes lt) = absurd (not_eq (digit k t i) 0 u (zeros i (le_refl i) lt))
        here (no ge) = omega arith

module _ (k t m j r : ℕ) (some : 0 < k) (odd : m % 2 ≡ 1) (low : r < k) (is : t ≡ m * 2 ^ (k * j + r)) where
  nonzero : digit k t j ≡ 0 → ⊥
  nonzero e = within k m r (k - r - 1) odd (omega arith) (sym (ap (λ (n : ℕ). digit k n j) is ∙ digit_on k m j r) ∙ e)

  zeros : (a : ℕ) → 0 ≤ a → a < j → digit k t a ≡ 0
  zeros a h l =
      let gap : j ≡ a + suc (j - a - 1) = omega arith in
      ap (λ (n : ℕ). digit k n a) (is ∙ ap (λ (n : ℕ). m * 2 ^ (k * n + r)) gap) ∙ below k m a (j - a - 1) r

  inside : j < digit_count k t
  inside = by_count (dec_lt j (digit_count k t))
    where
      by_count : Dec (j < digit_count k t) → j < digit_count k t
      by_count (yes lt) = lt
      by_count (no ge) =
          let none : t / 2 ^ (k * j) ≡ 0 = div-eq_of_lt (count_low k some t j (omega arith)) in
          absurd (nonzero (ap (λ (n : ℕ). n % 2 ^ k) none ∙ zero-mod (2 ^ k)))

  lowest_is : lowest k t ≡ j
  lowest_is = sought (digit_count k t) k t 0 j zero-le (omega (arith, inside)) zeros nonzero

-- the lowest digit's place, from the trailing zeros of a word
pub trailing_lowest : (w k t : ℕ) → 0 < k → 0 < t → t < 2 ^ w → count_trailing_zeros w t / k ≡ lowest k t
trailing_lowest w k t some h low =
    let z = count_trailing_zeros w t in
    let odd = odd_part w t h low in
    sym
    (lowest_is k t odd.0 (z / k) (z % k) some odd.1.odd (mod-lt z some)
    (odd.1.is ∙ ap (λ (n : ℕ). odd.0 * 2 ^ n) (sym (div-add-mod z k))))

-- digits of one bit need no division
pub trailing_bit : (w k t : ℕ) → k ≡ 1 → 0 < t → t < 2 ^ w → count_trailing_zeros w t ≡ lowest k t
trailing_bit w k t one h low = rw one (sym (div-one (count_trailing_zeros w t)) ∙ trailing_lowest w 1 t (omega arith) h low)

-- a number is a multiple of the weight of its lowest digit that is not 0
pub lowest_weight : (k t : ℕ) → 0 < k → 0 < t → (q : ℕ) × (t ≡ q * 2 ^ (k * lowest k t))
lowest_weight k t some h =
    let w = k * digit_count k t in
    let low : t < 2 ^ w = count_own k some t in
    let z = count_trailing_zeros w t in
    let odd = odd_part w t h low in
    let m = odd.0 in (
      m * 2 ^ (z % k),
      odd.1.is
          ∙ ap (λ (n : ℕ). m * 2 ^ n) (sym (div-add-mod z k))
          ∙ shift_on k m (k * (z / k)) (z % k)
          ∙ ap (λ (j : ℕ). m * 2 ^ (z % k) * 2 ^ (k * j)) (trailing_lowest w k t some h low),
    )
