-- Vectors of digits as numbers: a vector's number has its digits, a number is that of its digits, and what one unit less does to them.
use mathlib.Core.Bool.{Bool, true, false, cond}
use mathlib.Core.Path.{◌≡◌, refl, sym, ap, subst, ◌∙◌}
use Prim.Native.Nat.{ℕ, zero, suc, ◌+◌, ◌-◌, ◌*◌, ◌/◌, ◌%◌, ◌^◌, ◌≤◌, ◌<◌}
use native.Mathlib.Nat.{add_comm, add-mul, mul-add, mul-suc, mul-zero, mul_assoc, one-mul, zero-mul, mul-le-mul_right, le_refl, zero-div, zero-mod, div-eq_of_lt}
use native.Mathlib.Nat.{div-div-eq-div-mul, div-add-mod', mod-one, mod-lt, mod-eq_of_lt, add-mul-div_right, add-mul-mod_self_right}
use native.Mathlib.Decide.{dec_lt, ℕ_discrete}
use native.Mathlib.Omega.{arith}
use lib.Arith.{digits_lt}
use lib.Dec.{eqb}
use lib.Pow.{pow-add, pow_pos, pow-lt, high, mod-pow-add}
use borrow.Author.Tests.{eq-eqb, ne_eqb}
use Rattle.digits.specs.Digits.{digit}
use Rattle.digits.specs.Range.{sum_to}
use Rattle.digits.proofs.Range.{sum_same, sum-zero, sum-add, sum_single}

pub digit_low : (k x j : ℕ) → digit k x j < 2 ^ k
digit_low k x j = mod-lt (x / 2 ^ (k * j)) (pow_pos k)

pub digit_zero : (k j : ℕ) → digit k 0 j ≡ 0
digit_zero k j = ap (λ (n : ℕ). n % 2 ^ k) (zero-div (2 ^ (k * j))) ∙ zero-mod (2 ^ k)

-- there is no digit above a number's bound
pub digit_above : (k x j : ℕ) → x < 2 ^ (k * j) → digit k x j ≡ 0
digit_above k x j h = ap (λ (n : ℕ). n % 2 ^ k) (div-eq_of_lt h) ∙ zero-mod (2 ^ k)

-- Horner's rule: a number's digits from j on, by those above j and digit j
pub digits_from : (k x j : ℕ) → x / 2 ^ (k * suc j) * 2 ^ k + digit k x j ≡ x / 2 ^ (k * j)
digits_from k x j =
    let up : x / 2 ^ (k * suc j) ≡ x / 2 ^ (k * j) / 2 ^ k = rw (mul-suc, pow-add) (sym (div-div-eq-div-mul x (2 ^ (k * j)) (2 ^ k))) in
    ap (λ (y : ℕ). y * 2 ^ k + digit k x j) up ∙ div-add-mod' (x / 2 ^ (k * j)) (2 ^ k)

-- the number of the vector with the n digits x 0, x 1, ..
abbrev pub vector : ℕ → (ℕ → ℕ) → ℕ → ℕ
vector k x n = sum_to n (λ j. x j * 2 ^ (k * j))

pub vector_low : (k : ℕ) (x : ℕ → ℕ) (n : ℕ) → ((j : ℕ) → j < n → x j < 2 ^ k) → vector k x n < 2 ^ (k * n)
vector_low k x zero low = pow_pos (k * 0)
vector_low k x (suc n) low =
    rw (mul-suc, add_comm (k * n) k, pow-add)
    (subst (λ (s : ℕ). s < 2 ^ k * 2 ^ (k * n)) (add_comm _ _)
    (digits_lt (low n (omega arith)) (vector_low k x n (λ j h. low j (omega arith)))))

-- a vector's digits
pub digit_vector_lem : (k : ℕ) (x : ℕ → ℕ) (n : ℕ) → ((j : ℕ) → j < n → x j < 2 ^ k) → (j : ℕ) → j < n → digit k (vector k x n) j ≡ x j
digit_vector_lem k x zero low j h = absurd (omega arith)
digit_vector_lem k x (suc n) low j h = by_place (digit_vector_lem k x n (λ i g. low i (omega arith)) j) (dec_lt j n)
  where
    below : vector k x n < 2 ^ (k * n)
    below = vector_low k x n (λ i g. low i (omega arith))

    -- the weight of digit n is a multiple of that above digit j
    weight : j < n → x n * 2 ^ (k * n) ≡ x n * 2 ^ (k * (n - suc j)) * 2 ^ k * 2 ^ (k * j)
    weight lt =
        let gap : n ≡ n - suc j + suc j = omega arith in
        let exponent : k * n ≡ k * (n - suc j) + k + k * j = omega (arith, ap (λ (m : ℕ). k * m) gap, mul-add k (n - suc j) (suc j), mul-suc k j) in
        rw (exponent, pow-add 2 (k * (n - suc j) + k) (k * j), pow-add 2 (k * (n - suc j)) k)
        (sym (mul_assoc (x n) (2 ^ (k * (n - suc j)) * 2 ^ k) (2 ^ (k * j))) ∙ ap (λ (y : ℕ). y * 2 ^ (k * j)) (sym (mul_assoc (x n) (2 ^ (k * (n - suc j))) (2 ^ k))))

    by_place : (j < n → digit k (vector k x n) j ≡ x j) → Dec (j < n) → digit k (vector k x (suc n)) j ≡ x j
    by_place ih (no ge) =
        let last : j ≡ n = omega arith in
        rw last
        (ap (λ (s : ℕ). s / 2 ^ (k * n) % 2 ^ k) (add_comm (vector k x n) (x n * 2 ^ (k * n)))
        ∙ ap (λ (s : ℕ). s % 2 ^ k) (high (x n) (k * n) below)
        ∙ mod-eq_of_lt (low n (omega arith)))
    by_place ih (yes lt) =
        ap (λ (s : ℕ). (vector k x n + s) / 2 ^ (k * j) % 2 ^ k) (weight lt)
        ∙ ap (λ (s : ℕ). s % 2 ^ k) (add-mul-div_right (vector k x n) (x n * 2 ^ (k * (n - suc j)) * 2 ^ k) (pow_pos (k * j)))
        ∙ add-mul-mod_self_right (vector k x n / 2 ^ (k * j)) (x n * 2 ^ (k * (n - suc j))) (2 ^ k)
        ∙ ih lt

-- a number's lowest n digits
pub vector_digits : (k t n : ℕ) → vector k (digit k t) n ≡ t % 2 ^ (k * n)
vector_digits k t zero = sym (rw mul-zero (mod-one t))
vector_digits k t (suc n) =
    ap (λ (s : ℕ). s + digit k t n * 2 ^ (k * n)) (vector_digits k t n)
    ∙ add_comm _ _
    ∙ sym (mod-pow-add t k (k * n))
    ∙ ap (λ (e : ℕ). t % 2 ^ e) (add_comm k (k * n) ∙ sym (mul-suc k n))

-- a number below 2^(kn) is that of its n digits
pub vector_own : (k t n : ℕ) → t < 2 ^ (k * n) → vector k (digit k t) n ≡ t
vector_own k t n h = vector_digits k t n ∙ mod-eq_of_lt h

pub vector_zero : (k : ℕ) (x : ℕ → ℕ) (n : ℕ) → ((j : ℕ) → j < n → x j ≡ 0) → vector k x n ≡ 0
vector_zero k x n none = sum-zero n _ (λ j h. ap (λ (d : ℕ). d * 2 ^ (k * j)) (none j h) ∙ zero-mul (2 ^ (k * j)))

pub vector_add : (k : ℕ) (x y : ℕ → ℕ) (n : ℕ) → vector k (λ j. x j + y j) n ≡ vector k x n + vector k y n
vector_add k x y n = sum_same n _ _ (λ j h. add-mul (x j) (y j) (2 ^ (k * j))) ∙ sum-add n _ _

-- 1 where the two are the same, else 0
unfoldable pub delta : ℕ → ℕ → ℕ
delta i j = cond (eqb i j) 1 0

pub delta_same : (j : ℕ) → delta j j ≡ 1
unfolding delta
delta_same j = rw (eq-eqb j j refl)

pub delta_other : (i j : ℕ) → (i ≡ j → ⊥) → delta i j ≡ 0
unfolding delta
delta_other i j h = rw (ne_eqb i j h)

pub delta_low : (i j limit : ℕ) → 1 ≤ limit → delta i j ≤ limit
unfolding delta
delta_low i j limit h = by_test (eqb i j)
  where
    by_test : (b : Bool) → cond b 1 0 ≤ limit
    by_test true = h
    by_test false = omega arith

pub delta_part : (i j m : ℕ) → delta i j * m ≤ m
delta_part i j m = rw one-mul at (mul-le-mul_right m (delta_low i j 1 (le_refl 1)))

-- the part of a sum that delta picks
pub sum_delta : (n : ℕ) (f : ℕ → ℕ) (j : ℕ) → j < n → sum_to n (λ i. delta i j * f i) ≡ f j
sum_delta n f j h =
    sum_single n _ j h (λ i g ne. ap (λ (d : ℕ). d * f i) (delta_other i j ne) ∙ zero-mul (f i))
    ∙ ap (λ (d : ℕ). d * f j) (delta_same j)
    ∙ one-mul (f j)

-- a unit's digits
pub digit_unit_lem : (k n d j : ℕ) → 0 < k → d < n → j < n → digit k (2 ^ (k * d)) j ≡ delta j d
digit_unit_lem k n d j some hd hj =
    let base : 1 < 2 ^ k = pow-lt some in
    ap (λ (t : ℕ). digit k t j) (sym (sum_delta n (λ i. 2 ^ (k * i)) d hd))
    ∙ digit_vector_lem k (λ i. delta i d) n (λ i h. omega (arith, delta_low i d 1 (omega arith))) j hj

-- one unit of digit l less: the others stay
pub record Less (k n t l : ℕ) : Type 0 where
  pub fits : 2 ^ (k * l) ≤ t
  pub digits : (j : ℕ) → j < n → digit k (t - 2 ^ (k * l)) j + delta j l ≡ digit k t j

pub digit_less : (k n t l : ℕ) → 0 < k → t < 2 ^ (k * n) → l < n → 0 < digit k t l → Less k n t l
digit_less k n t l some low hl nonzero =
    record {
      fits = omega (arith, whole);
      digits = λ j h. ap (λ (y : ℕ). digit k y j + delta j l) rest ∙ ap (λ (y : ℕ). y + delta j l) (digit_vector_lem k x n x_low j h) ∙ back j;
    }
  where
    x : ℕ → ℕ
    x j = digit k t j - delta j l

    back : (j : ℕ) → x j + delta j l ≡ digit k t j
    back j = by_place (ℕ_discrete j l)
      where
        by_place : Dec (j ≡ l) → x j + delta j l ≡ digit k t j
        by_place (yes e) = rw e (omega (arith, delta_same l))
        by_place (no ne) = omega (arith, delta_other j l ne)

    x_low : (j : ℕ) → j < n → x j < 2 ^ k
    x_low j h = omega (arith, digit_low k t j)

    whole : vector k x n + 2 ^ (k * l) ≡ t
    whole =
        ap (λ (y : ℕ). vector k x n + y) (sym (sum_delta n (λ i. 2 ^ (k * i)) l hl))
        ∙ sym (vector_add k x (λ i. delta i l) n)
        ∙ sum_same n _ _ (λ j h. ap (λ (d : ℕ). d * 2 ^ (k * j)) (back j))
        ∙ vector_own k t n low

    rest : t - 2 ^ (k * l) ≡ vector k x n
    rest = omega (arith, whole)
