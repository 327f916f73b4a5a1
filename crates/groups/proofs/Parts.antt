-- A part's number has for digits what a payslip uses of the group, so the parts of the first groups make together what it uses of the first inputs.
use mathlib.Core.Path.{◌≡◌, sym, ap, ◌∙◌}
use mathlib.Core.List.{List}
use Prim.Native.Nat.{ℕ, zero, suc, ◌+◌, ◌*◌, ◌^◌, ◌≤◌, ◌<◌}
use native.Mathlib.Nat.{le_trans}
use native.Mathlib.Omega.{arith}
use lib.ListN.{length, get_or}
use Rattle.digits.specs.Digits.{digit}
use Rattle.digits.specs.Range.{sum_to}
use Rattle.digits.proofs.Range.{sum_same, sum_split, sum_more}
use Rattle.tables.proofs.Entries.{combined}
use Rattle.groups.specs.Groups.{group, group_size, weigh}
use Rattle.groups.proofs.Groups.{digit_weigh, get_d_group, group_within, length-group, reached, reached_next, weigh_low}

-- the sum over a group's members, after those of the groups before
sum-group : (c w g : ℕ) (F : ℕ → ℕ) → sum_to (reached c w g) F + sum_to (group_size c w g) (λ j. F (g * c + j)) ≡ sum_to (reached c w (suc g)) F
sum-group c w g F =
    let n : ℕ = group_size c w g in
    let same : sum_to n (λ j. F (reached c w g + j)) ≡ sum_to n (λ j. F (g * c + j)) =
    sum_same n _ _ (λ j h. ap (λ (k : ℕ). F (k + j)) (full j h)) in
    sym (ap (λ (k : ℕ). sum_to k F) (reached_next c w g) ∙ sum_split (reached c w g) n F ∙ ap (λ (s : ℕ). sum_to (reached c w g) F + s) same)
  where
    full : (j : ℕ) → j < group_size c w g → reached c w g ≡ g * c
    full j h = omega arith

-- which inputs a payslip uses, 1 or 0 for each member
module _ (c : ℕ) (members bits : List ℕ) (same : length bits ≡ length members) (two : (j : ℕ) → j < length bits → get_or bits j 0 < 2 ^ 1) where
  same_size : (g : ℕ) → length (group c g bits) ≡ length (group c g members)
  same_size g = length-group c g bits ∙ ap (λ (w : ℕ). group_size c w g) same ∙ sym (length-group c g members)

  own_two : (g j : ℕ) → j < length (group c g bits) → get_or (group c g bits) j 0 < 2 ^ 1
  own_two g j h = rw (get_d_group c g bits j h) (two (g * c + j) (group_within c g (length bits) j (omega (arith, length-group c g bits))))

  pub part_number : (g : ℕ) → weigh (group c g bits) < 2 ^ (1 * length (group c g members))
  part_number g = rw (← same_size g) (weigh_low (group c g bits) (own_two g))

  -- its exponents, x j d being those of input j in column d
  module _ (x : ℕ → ℕ → ℕ) where
    -- what a payslip uses of the inputs of the first groups
    abbrev pub uses : ℕ → ℕ → ℕ
    uses g d = sum_to (reached c (length members) g) (λ j. get_or bits j 0 * x j d)

    -- its part of one group
    pub part_makes : (g d : ℕ) → combined 1 (length (group c g members)) (λ j. x (g * c + j)) (weigh (group c g bits)) d
        ≡ sum_to (group_size c (length members) g) (λ j. get_or bits (g * c + j) 0 * x (g * c + j) d)
    part_makes g d =
        sum_same (length (group c g members)) _ _ (λ j h. ap (λ (b : ℕ). b * x (g * c + j) d) (bit j (here j h)))
        ∙ ap (λ (n : ℕ). sum_to n (λ j. get_or bits (g * c + j) 0 * x (g * c + j) d)) (length-group c g members)
      where
        here : (j : ℕ) → j < length (group c g members) → j < length (group c g bits)
        here j h = omega (arith, same_size g)

        bit : (j : ℕ) → j < length (group c g bits) → digit 1 (weigh (group c g bits)) j ≡ get_or bits (g * c + j) 0
        bit j h = digit_weigh (group c g bits) (own_two g) j h ∙ get_d_group c g bits j h

    pub uses_none : (d : ℕ) → 0 ≡ uses 0 d
    uses_none d =
        let e : reached c (length members) 0 ≡ 0 = omega arith in
        sym (ap (λ (n : ℕ). sum_to n (λ j. get_or bits j 0 * x j d)) e)

    pub uses_on : (g d : ℕ) → uses g d + combined 1 (length (group c g members)) (λ j. x (g * c + j)) (weigh (group c g bits)) d ≡ uses (suc g) d
    uses_on g d = rw (part_makes g d) (sum-group c (length members) g (λ j. get_or bits j 0 * x j d))

    -- the parts of the first groups together
    pub parts-sum : (g d : ℕ) → sum_to g (λ e. combined 1 (length (group c e members)) (λ j. x (e * c + j)) (weigh (group c e bits)) d) ≡ uses g d
    parts-sum zero d = uses_none d
    parts-sum (suc g) d =
        ap (λ (s : ℕ). s + combined 1 (length (group c g members)) (λ j. x (g * c + j)) (weigh (group c g bits)) d) (parts-sum g d) ∙ uses_on g d

    pub uses_low : (g d limit : ℕ) → sum_to (length members) (λ j. get_or bits j 0 * x j d) ≤ limit → uses g d ≤ limit
    uses_low g d limit low = le_trans (sum_more (λ j. get_or bits j 0 * x j d) (reached c (length members) g) (length members) (omega arith)) low
