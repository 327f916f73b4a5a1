-- Method 4's chain: the groups' tables make the parts that are used, the levels make of these each nonzero payslip, and a zero payslip has the empty
-- product for its output.
use mathlib.Core.Path.{◌≡◌, refl, sym, ap, ◌∙◌}
use mathlib.Core.Bool.{Bool, true, false, cond}
use mathlib.Core.List.{List, []}
use Prim.Native.Nat.{ℕ, ◌*◌, ◌/◌, ◌%◌, ◌+◌, ◌^◌, ◌≤◌, ◌<◌}
use lib.ListN.{length, get_or, length-map}
use Rattle.chain.specs.Chain.{Chain, most_amount}
use Rattle.chain.proofs.Exponents.{Makes, makes_zero, makes_like}
use Rattle.digits.proofs.Listed.{length-list, get_d_list}
use Rattle.sheet.specs.Sheet.{amount}
use Rattle.methods.proofs.Payslips.{Pays}
use Rattle.groups.specs.Groups.{inputs, sheet_squarings, sheet_tables}
use Rattle.groups.proofs.Members.{exponent_in}
use Rattle.groups.proofs.Prepared.{sheet_tables_lem}
use Rattle.groups.proofs.Tables.{Tabled}
use Rattle.clumps.specs.Clumps.{Level}
use Rattle.clumps.specs.Levels.{clump_outputs}
use Rattle.clumps.proofs.Ranked.{rank_low, rank_at}
use Rattle.clumps.proofs.Products.{Given, sum_of, Posed, Solved}
use Rattle.clumps.proofs.Solved.{Sizes, clump_outputs_lem}
use Rattle.clumping.specs.Clumping.{clumping, clumping_count, is_nonzero, nonzero, part_value, sheet_groups, used, used_values, wanted}
use Rattle.clumps.proofs.Lists.{get_d_map_in}
use Rattle.clumping.proofs.Parts.{input_part, slip_below, slip_sum, slip_at, used_exponents, wanted_at, wanted_count}
use Rattle.clumps.proofs.Lists.{get_d_map_in}
use Rattle.clumping.proofs.Parts.{wanted_proper, zero_amount}

-- the steps are as many as the count
pub clumping_count_lem : (p q : ℕ) (amounts : List ℕ) (c : ℕ) (levels : List Level)
    → length (clumping p q amounts c levels).steps ≡ clumping_count p q amounts c levels
unfolding clumping_count
clumping_count_lem p q amounts c levels = refl

module _ (p q : ℕ) (amounts : List ℕ) (c : ℕ) where
  abbrev U : List ℕ
  U = used p q amounts c

  abbrev W : List (List ℕ)
  W = wanted p q amounts c

  abbrev done : List Level → Chain
  done levels = clump_outputs levels p (used_values p q amounts c) W (sheet_tables p q amounts c)

  abbrev output_of : List Level → ℕ → Bool → ℕ
  output_of levels i t = cond t (get_or (done levels).outputs (length (nonzero p q amounts c i)) 0) 0

  output_at : (levels : List Level) (i : ℕ) → i < q → get_or (clumping p q amounts c levels).outputs i 0 ≡ output_of levels i (is_nonzero p q amounts c i)
  unfolding clumping
  output_at levels i h = get_d_list q _ 0 i h

  -- a zero payslip has output 0
  pub clumping_zero : (levels : List Level) (i : ℕ) → i < q → is_nonzero p q amounts c i ≡ false → get_or (clumping p q amounts c levels).outputs i 0 ≡ 0
  clumping_zero levels i h e = output_at levels i h ∙ ap (output_of levels i) e

  module _ (some : 1 ≤ c) (low : (j : ℕ) → get_or amounts j 0 ≤ most_amount) where
    tabled : Tabled p most_amount c (inputs p q amounts) (sheet_squarings p q amounts) (exponent_in p q amounts) (sheet_groups p q amounts c)
    tabled = sheet_tables_lem p q amounts low c (sheet_groups p q amounts c)

    values_size : length (used_values p q amounts c) ≡ length U
    unfolding used_values
    values_size = length-map U _

    value_at_lem : (x : ℕ) → x < length U → get_or (used_values p q amounts c) x 0 ≡ part_value p q amounts c (get_or U x 0 / 2 ^ c) (get_or U x 0 % 2 ^ c)
    unfolding used_values
    value_at_lem x h = get_d_map_in _ U x 0 0 h

    -- each part that is used makes its exponents
    parts_given : Given p (sheet_tables p q amounts c) (used_values p q amounts c) (used_exponents p q amounts c)
    parts_given = record { makes = λ x h. one x (rw values_size at h) }
      where
        one : (x : ℕ) → x < length U
            → Makes p (sheet_tables p q amounts c) (get_or (used_values p q amounts c) x 0) (λ d. get_or (used_exponents p q amounts c d) x 0)
        one x h =
            let g = input_part p q amounts c x h in
            rw (value_at_lem x h)
            (makes_like p _ _ _ _ (λ d k. sym (get_d_list (length U) _ 0 x h))
            (tabled.makes (get_or U x 0 / 2 ^ c) (get_or U x 0 % 2 ^ c) g.at_low g.number_fits))

    wanted-sum : (j d : ℕ) → j < length W → d < p → sum_of (used_exponents p q amounts c) (get_or W j []) d ≡ amount p amounts (slip_at p q amounts c j) d
    wanted-sum j d h k =
        ap (λ (s : List ℕ). sum_of (used_exponents p q amounts c) s d) (wanted_at p q amounts c j h)
        ∙ slip_sum p q amounts c some (slip_at p q amounts c j) d (slip_below p q amounts c j h) k

    -- the first problem
    pub parts_posed : Posed p most_amount (sheet_tables p q amounts c) (used_values p q amounts c) (used_exponents p q amounts c) W
    parts_posed =
        record {
          sound = tabled.sound;
          given = parts_given;
          sizes = λ d. length-list (length U) _ ∙ sym values_size;
          proper = λ j h. rw values_size (wanted_proper p q amounts c j h);
          low = λ j d h k. rw (wanted-sum j d h k) (low (slip_at p q amounts c j * p + d));
        }

    -- every payslip is made, within the limit
    pub clumping_pays : (levels : List Level) → Sizes levels
        → Pays p most_amount (sheet_tables p q amounts c) (amount p amounts) q (clumping p q amounts c levels)
    unfolding clumping
    clumping_pays levels sizes =
        record {
          sound = solved.sound;
          begins = solved.begins;
          outputs = length-list q _;
          makes = λ i h. rw (output_at levels i h) (makes i h (is_nonzero p q amounts c i) refl);
        }
      where
        solved : Solved p most_amount (sheet_tables p q amounts c) (used_exponents p q amounts c) W (done levels)
        solved = clump_outputs_lem levels sizes p most_amount _ _ _ _ parts_posed

        makes : (i : ℕ) → i < q → (t : Bool) → is_nonzero p q amounts c i ≡ t → Makes p (done levels).steps (output_of levels i t) (amount p amounts i)
        makes i h false e = makes_like p _ _ _ _ (λ d k. sym (zero_amount p q amounts c some i d h k e)) (makes_zero p (done levels).steps)
        makes i h true e =
            let j : ℕ = length (nonzero p q amounts c i) in
            let there : j < length W = rw (wanted_count p q amounts c) (rank_low (is_nonzero p q amounts c) i e q h) in
            let own : slip_at p q amounts c j ≡ i = rank_at (is_nonzero p q amounts c) i e q h in
            makes_like p _ _ _ _ (λ d k. wanted-sum j d there k ∙ ap (λ (s : ℕ). amount p amounts s d) own) (solved.makes j there)
