-- Groups of c end where the next begins, so the first g hold min(gc, w) inputs and all hold w; a part's number has the part's bits for digits.
use mathlib.Core.Path.{◌≡◌, refl, sym, ap, ◌∙◌}
use mathlib.Core.List.{List, [], ◌∷◌}
use Prim.Native.Nat.{ℕ, zero, suc, ◌+◌, ◌-◌, ◌*◌, ◌^◌, ◌≤◌, ◌<◌, min}
use native.Mathlib.Nat.{suc-mul, mul_assoc, mod-lt, div-add-mod', pow-suc, one-mul}
use native.Mathlib.Omega.{arith}
use lib.ListN.{length, get_or, drop, length-take, length-drop}
use lib.Seq.{get_or-take, get_or-drop}
use Rattle.digits.specs.Digits.{digit}
use Rattle.digits.specs.Range.{sum_to}
use Rattle.digits.proofs.Range.{sum_same, sum_split, sum-mul}
use Rattle.digits.proofs.Vector.{vector, vector_low, digit_vector_lem}
use Rattle.groups.specs.Groups.{group, group_count, group_size, weigh}

pub length-group : (c g : ℕ) (l : List ℕ) → length (group c g l) ≡ group_size c (length l) g
length-group c g l = length-take c (drop (g * c) l) ∙ ap (min c) (length-drop (g * c) l)

pub get_d_group : (c g : ℕ) (l : List ℕ) (j : ℕ) → j < length (group c g l) → get_or (group c g l) j 0 ≡ get_or l (g * c + j) 0
get_d_group c g l j h =
    get_or-take c (drop (g * c) l) j 0 (omega (arith, length-group c g l)) ∙ get_or-drop (g * c) l j 0

-- a member of a group is an input
pub group_within : (c g w j : ℕ) → j < group_size c w g → g * c + j < w
group_within c g w j h = omega arith

-- a table has an entry for each unit, and one for zero
pub inputs_below : (n : ℕ) → n + 1 ≤ 2 ^ n
inputs_below zero = omega arith
inputs_below (suc n) = rw (pow-suc 2 n) (omega (arith, inputs_below n))

-- how many inputs the first g groups hold
abbrev pub reached : ℕ → ℕ → ℕ → ℕ
reached c w g = min (g * c) w

pub reached_next : (c w g : ℕ) → reached c w (suc g) ≡ reached c w g + group_size c w g
reached_next c w g = rw (suc-mul g c) (omega arith)

pub reached_all : (c w : ℕ) → 0 < c → reached c w (group_count c w) ≡ w
reached_all c w some =
    let d = div-add-mod' (w + c - 1) c in
    let m = mod-lt (w + c - 1) some in
    omega arith

-- the number of a part of a group has the part's bits for digits
pub weigh_vector : (l : List ℕ) → weigh l ≡ vector 1 (λ j. get_or l j 0) (length l)
weigh_vector [] = refl
weigh_vector (b ∷ l) =
    let n : ℕ = length l in
    let f : ℕ → ℕ = λ j. get_or (b ∷ l) j 0 * 2 ^ (1 * j) in
    let all : suc n ≡ 1 + n = omega arith in
    let first : sum_to (1 + n) f ≡ sum_to 1 f + sum_to n (λ j. f (1 + j)) = sum_split 1 n f in
    let split : sum_to (suc n) f ≡ b + sum_to n (λ j. f (1 + j)) = ap (λ (k : ℕ). sum_to k f) all ∙ first ∙ omega arith in
    let rest : sum_to n (λ j. f (1 + j)) ≡ vector 1 (λ j. get_or l j 0) n * 2 =
    sum_same n _ _ (λ j h. shift j) ∙ sum-mul n (λ j. get_or l j 0 * 2 ^ (1 * j)) 2 in
    omega (arith, split, rest, weigh_vector l)
  where
    shift : (j : ℕ) → get_or (b ∷ l) (1 + j) 0 * 2 ^ (1 * (1 + j)) ≡ get_or l j 0 * 2 ^ (1 * j) * 2
    shift j =
        let e : 1 + j ≡ suc j = omega arith in
        rw (e, one-mul (suc j), one-mul j, pow-suc 2 j) (sym (mul_assoc (get_or l j 0) (2 ^ j) 2))

module _ (l : List ℕ) (bits : (j : ℕ) → j < length l → get_or l j 0 < 2 ^ 1) where
  pub weigh_low : weigh l < 2 ^ (1 * length l)
  weigh_low = rw (weigh_vector l) (vector_low 1 (λ j. get_or l j 0) (length l) bits)

  pub digit_weigh : (j : ℕ) → j < length l → digit 1 (weigh l) j ≡ get_or l j 0
  digit_weigh j h = rw (weigh_vector l) (digit_vector_lem 1 (λ i. get_or l i 0) (length l) bits j h)
