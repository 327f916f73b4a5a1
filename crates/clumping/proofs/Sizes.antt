-- The first problem is small: an output has a part for each group where its payslip's is not empty, so its incidences count these over all payslips, and
-- each part that is used is one of them.
use mathlib.Core.Path.{◌≡◌, refl, sym, ap, ◌∙◌}
use mathlib.Core.Bool.{Bool}
use mathlib.Core.List.{List}
use Prim.Native.Nat.{ℕ, zero, suc, ◌*◌, ◌^◌, ◌≤◌, ◌<◌}
use native.Mathlib.Nat.{mul-one, one-mul}
use native.Mathlib.Omega.{arith}
use lib.ListN.{length}
use Rattle.digits.specs.Range.{sum_to, sign}
use Rattle.digits.proofs.Range.{sum_same, sum_low, sum_le, sum_swap, sign_le, signs_low}
use Rattle.clumps.proofs.Totals.{bit, total_map, total_which, length_total}
use Rattle.clumps.proofs.Chosen.{chosen-length}
use Rattle.clumps.proofs.Ranked.{which_few}
use Rattle.clumps.proofs.Sizes.{size_of}
use Rattle.clumping.specs.Clumping.{is_nonzero, nonzero, parts_of, sheet_groups, used, uses, wanted}
use Rattle.clumping.proofs.Parts.{nonzero-sum, number, of_slip, slip_parts, slip_total, someone, someone_sum, used_is, wanted_count, wanted_is}

module _ (p q : ℕ) (amounts : List ℕ) (c : ℕ) where
  abbrev G : ℕ
  G = sheet_groups p q amounts c

  -- how many of payslip i's parts are not empty
  abbrev filled : ℕ → ℕ
  filled i = sum_to G (λ g. sign (number p q amounts c i g))

  slip_length : (i : ℕ) → i < q → length (of_slip p q amounts c i) ≡ filled i
  slip_length i h =
      length_total (of_slip p q amounts c i)
      ∙ slip_total p q amounts c (λ k. 1) (λ x. 1) (λ x g. refl) i h
      ∙ sum_same G _ _ (λ g l. mul-one (sign (number p q amounts c i g)))

  -- the incidences
  wanted_size : size_of (wanted p q amounts c) ≡ sum_to q filled
  wanted_size =
      ap size_of (wanted_is p q amounts c)
      ∙ total_map length (of_slip p q amounts c) (nonzero p q amounts c q)
      ∙ total_which (λ i. length (of_slip p q amounts c i)) (is_nonzero p q amounts c) q
      ∙ sum_same q _ _ (λ i h. ap (λ (k : ℕ). bit (is_nonzero p q amounts c i) * k) (slip_length i h)
      ∙ ap (λ (b : ℕ). b * filled i) (nonzero-sum p q amounts c i) ∙ own (filled i))
    where
      own : (x : ℕ) → sign x * x ≡ x
      own zero = refl
      own (suc x) = one-mul (suc x)

  pub wanted_low : size_of (wanted p q amounts c) ≤ q * G
  wanted_low = omega (arith, wanted_size, sum_low q filled G (λ i h. signs_low G (number p q amounts c i)))

  pub wanted_few : length (wanted p q amounts c) ≤ q
  wanted_few = omega (arith, wanted_count p q amounts c, which_few (is_nonzero p q amounts c) q)

  pub used_few : length (used p q amounts c) ≤ G * 2 ^ c
  used_few = rw (used_is p q amounts c) (which_few (someone p q amounts c) (G * 2 ^ c))

  -- each part that is used is used by a payslip
  pub used_wanted : length (used p q amounts c) ≤ size_of (wanted p q amounts c)
  used_wanted =
      omega (
        arith,
        ap length (used_is p q amounts c),
        chosen-length (someone p q amounts c) (G * 2 ^ c),
        sum_le (G * 2 ^ c) (λ k. bit (someone p q amounts c k)) users (λ k h. omega (arith, someone_sum p q amounts c k, sign_le (users k))),
        sum_swap (G * 2 ^ c) q (λ k i. bit (mine i k)),
        sum_same q _ _ (λ i h. parts i),
        wanted_size,
      )
    where
      mine : ℕ → ℕ → Bool
      mine i k = uses p q amounts c (parts_of p q amounts c i) k

      users : ℕ → ℕ
      users k = sum_to q (λ i. bit (mine i k))

      parts : (i : ℕ) → sum_to (G * 2 ^ c) (λ k. bit (mine i k)) ≡ filled i
      parts i =
          sum_same (G * 2 ^ c) _ _ (λ k h. sym (mul-one (bit (mine i k))))
          ∙ slip_parts p q amounts c (λ k. 1) i
          ∙ sum_same G _ _ (λ g l. mul-one (sign (number p q amounts c i g)))
