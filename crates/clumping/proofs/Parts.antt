-- The first problem: a payslip uses in each group the one part whose number is its own there, if that is not empty; so a sum over the parts that it uses
-- goes by groups, and by the groups' laws the exponents of these parts add up to its amounts.
use mathlib.Core.Path.{◌≡◌, refl, sym, ap, ◌∙◌}
use mathlib.Core.Bool.{Bool, true, false, not, ◌&&◌}
use mathlib.Core.List.{List, [], map}
use Prim.Native.Nat.{ℕ, zero, suc, ◌+◌, ◌*◌, ◌/◌, ◌%◌, ◌^◌, ◌≤◌, ◌<◌}
use native.Mathlib.Nat.{zero-mul, one-mul, mul-zero, mul-le-mul_right, div-add-mod'}
use native.Mathlib.Decide.{dec_lt}
use native.Mathlib.Omega.{arith}
use lib.ListN.{length, get_or, length-map}
use lib.Pow.{pow_mono}
use Rattle.chain.specs.Tests.{◌=?◌}
use Rattle.chain.proofs.Rules.{eq_yes, eq_no, is_eq}
use Rattle.digits.specs.Range.{sum_to, list_to, sign}
use Rattle.digits.proofs.Blocks.{block_div, block_mod, sum_blocks}
use Rattle.digits.proofs.Range.{sum_same, sum_single, sum-zero, le_sum, sign_pos, sign_some}
use Rattle.digits.proofs.Listed.{get_d_list}
use Rattle.sheet.specs.Sheet.{amount}
use Rattle.tables.proofs.Entries.{combined, combined_zero}
use Rattle.groups.specs.Groups.{group, inputs, selection, weigh}
use Rattle.groups.proofs.Groups.{length-group}
use Rattle.groups.proofs.Members.{exponent_in, selection_two}
use Rattle.groups.proofs.Parts.{part_number, parts-sum}
use Rattle.groups.proofs.Prepared.{selected, selection_long}
use Rattle.clumps.specs.Lists.{which, some_below}
use Rattle.clumps.proofs.Lists.{get_d_map_in}
use Rattle.clumps.proofs.Totals.{bit, total, total_at, total_which, Part, sum-part}
use Rattle.clumps.proofs.Cut.{Proper}
use Rattle.clumps.proofs.Chosen.{chosen_proper}
use Rattle.clumps.proofs.Ranked.{which_item, some-sum}
use Rattle.clumping.specs.Clumping.{is_nonzero, nonzero, parts_of, sheet_groups, used, uses, wanted}

-- a number that is not 0
bit_not_zero : (t : ℕ) → bit (not (t =? 0)) ≡ sign t
bit_not_zero zero = rw (eq_yes 0 0 refl)
bit_not_zero (suc t) = rw (eq_no (suc t) 0 (λ e. omega arith))

sign_none : (x : ℕ) → sign x ≡ 0 → x ≡ 0
sign_none zero e = refl
sign_none (suc x) e = absurd (omega arith)

and_false : (s : Bool) → bit (s && false) ≡ 0
and_false true = refl
and_false false = refl

and_true : (s : Bool) → bit (s && true) ≡ bit s
and_true true = refl
and_true false = refl

module _ (p q : ℕ) (amounts : List ℕ) (c : ℕ) where
  abbrev G : ℕ
  G = sheet_groups p q amounts c

  abbrev B : ℕ
  B = 2 ^ c

  abbrev U : List ℕ
  U = used p q amounts c

  -- the number of payslip i's part of group g, below 2^c and one of its group's
  abbrev pub number : ℕ → ℕ → ℕ
  number i g = weigh (group c g (selection p q amounts i))

  number_at : (i g : ℕ) → g < G → get_or (parts_of p q amounts c i) g 0 ≡ number i g
  unfolding parts_of
  number_at i g h = get_d_list G _ 0 g h

  number_low : (i g : ℕ) → number i g < 2 ^ (1 * length (group c g (inputs p q amounts)))
  number_low i g = part_number c (inputs p q amounts) (selection p q amounts i) (selection_long p q amounts i) (selection_two p q amounts i) g

  number_small : (i g : ℕ) → number i g < B
  number_small i g =
      let n : ℕ = length (group c g (inputs p q amounts)) in
      let few : 1 * n ≤ c = omega (arith, length-group c g (inputs p q amounts), one-mul n) in
      omega (arith, number_low i g, pow_mono few)

  -- payslip i uses part k
  abbrev mine : ℕ → ℕ → Bool
  mine i k = uses p q amounts c (parts_of p q amounts c i) k

  mine_at : (i g t : ℕ) → g < G → t < B → mine i (g * B + t) ≡ not (t =? 0) && (number i g =? t)
  mine_at i g t h k = rw (block_div g B t k, block_mod g B t k, number_at i g h)

  -- a sum over all parts that it uses goes by groups
  pub slip_parts : (f : ℕ → ℕ) (i : ℕ) → sum_to (G * B) (λ k. bit (mine i k) * f k) ≡ sum_to G (λ g. sign (number i g) * f (g * B + number i g))
  slip_parts f i = sum_blocks G B _ ∙ sum_same G _ _ one
    where
      one : (g : ℕ) → g < G → sum_to B (λ t. bit (mine i (g * B + t)) * f (g * B + t)) ≡ sign (number i g) * f (g * B + number i g)
      one g h =
          sum_single B _ (number i g) (number_small i g)
          (λ t k ne. ap (λ (b : ℕ). b * f (g * B + t)) (ap bit (mine_at i g t h k) ∙ other t ne) ∙ zero-mul (f (g * B + t)))
          ∙ ap (λ (b : ℕ). b * f (g * B + number i g)) (ap bit (mine_at i g (number i g) h (number_small i g)) ∙ own (number i g))
        where
          other : (t : ℕ) → (t ≡ number i g → ⊥) → bit (not (t =? 0) && (number i g =? t)) ≡ 0
          other t ne = rw (eq_no (number i g) t (λ e. ne (sym e))) (and_false (not (t =? 0)))

          own : (t : ℕ) → bit (not (t =? 0) && (t =? t)) ≡ sign t
          own t = rw (eq_yes t t refl) (and_true (not (t =? 0)) ∙ bit_not_zero t)

  -- the parts that some payslip uses
  abbrev pub someone : ℕ → Bool
  someone k = some_below (λ i. uses p q amounts c (get_or (list_to q (parts_of p q amounts c)) i []) k) q

  pub used_is : U ≡ which someone (G * B)
  unfolding used
  used_is = refl

  pub someone_sum : (k : ℕ) → bit (someone k) ≡ sign (sum_to q (λ i. bit (mine i k)))
  someone_sum k =
      some-sum (λ i. uses p q amounts c (get_or (list_to q (parts_of p q amounts c)) i []) k) q
      ∙ ap sign (sum_same q _ _ (λ i h. ap (λ (l : List ℕ). bit (uses p q amounts c l k)) (get_d_list q (parts_of p q amounts c) [] i h)))

  -- the sum over those that payslip i uses
  used_total : (f : ℕ → ℕ) (i : ℕ) → i < q → total (λ k. bit (mine i k) * f k) U ≡ sum_to G (λ g. sign (number i g) * f (g * B + number i g))
  used_total f i h =
      ap (total (λ k. bit (mine i k) * f k)) used_is
      ∙ total_which (λ k. bit (mine i k) * f k) someone (G * B)
      ∙ sum_same (G * B) _ _ (λ k g. there k (mine i k) refl)
      ∙ slip_parts f i
    where
      there : (k : ℕ) (t : Bool) → mine i k ≡ t → bit (someone k) * (bit (mine i k) * f k) ≡ bit (mine i k) * f k
      there k true e =
          let found : bit (someone k) ≡ 1 =
          someone_sum k ∙ sign_some (sum_to q (λ i. bit (mine i k))) (omega (arith, le_sum q (λ i. bit (mine i k)) i h, ap bit e)) in
          ap (λ (b : ℕ). b * (bit (mine i k) * f k)) found ∙ one-mul _
      there k false e =
          let z : bit (mine i k) * f k ≡ 0 = ap (λ (b : Bool). bit b * f k) e ∙ zero-mul (f k) in
          ap (λ (m : ℕ). bit (someone k) * m) z ∙ mul-zero (bit (someone k)) ∙ sym z

  -- what an output is: the places of the parts that payslip i uses
  abbrev pub of_slip : ℕ → List ℕ
  of_slip i = which (λ x. uses p q amounts c (parts_of p q amounts c i) (get_or (used p q amounts c) x 0)) (length (used p q amounts c))

  pub slip_total : (f v : ℕ → ℕ) → ((x : ℕ) → x < length U → v x ≡ f (get_or U x 0)) → (i : ℕ) → i < q
      → total v (of_slip i) ≡ sum_to G (λ g. sign (number i g) * f (g * B + number i g))
  slip_total f v is i h =
      total_which v (λ x. mine i (get_or U x 0)) (length U)
      ∙ sum_same (length U) _ _ (λ x g. ap (λ (e : ℕ). bit (mine i (get_or U x 0)) * e) (is x g))
      ∙ sym (total_at (λ k. bit (mine i k) * f k) U 0)
      ∙ used_total f i h

  pub wanted_is : wanted p q amounts c ≡ map of_slip (nonzero p q amounts c q)
  unfolding wanted
  wanted_is = refl

  pub wanted_count : length (wanted p q amounts c) ≡ length (nonzero p q amounts c q)
  wanted_count = ap length wanted_is ∙ length-map (nonzero p q amounts c q) of_slip

  -- payslip number j of those that are not zero
  abbrev pub slip_at : ℕ → ℕ
  slip_at j = get_or (nonzero p q amounts c q) j 0

  pub slip_below : (j : ℕ) → j < length (wanted p q amounts c) → slip_at j < q
  slip_below j h = (which_item (is_nonzero p q amounts c) q j (rw wanted_count at h)).0

  pub wanted_at : (j : ℕ) → j < length (wanted p q amounts c) → get_or (wanted p q amounts c) j [] ≡ of_slip (slip_at j)
  wanted_at j h =
      ap (λ (l : List (List ℕ)). get_or l j []) wanted_is ∙ get_d_map_in of_slip (nonzero p q amounts c q) j 0 [] (rw wanted_count at h)

  pub wanted_proper : (j : ℕ) → j < length (wanted p q amounts c) → Proper (length U) (get_or (wanted p q amounts c) j [])
  wanted_proper j h = rw (wanted_at j h) (chosen_proper (λ x. mine (slip_at j) (get_or U x 0)) (length U))

  -- an input is a part of a group
  pub record OfGroup (k : ℕ) : Type 0 where
    pub at_low : k / B < G
    pub number_fits : k % B < 2 ^ (1 * length (group c (k / B) (inputs p q amounts)))

  pub input_part : (x : ℕ) → x < length U → OfGroup (get_or U x 0)
  input_part x h = found (get_or U x 0) (rw used_is (which_item someone (G * B) x (rw used_is at h)))
    where
      found : (k : ℕ) → (k < G * B) × (someone k ≡ true) → OfGroup k
      found k r =
          let user : Part q (λ i. bit (mine i k)) = sum-part q _ (sign_pos _ (sym (someone_sum k) ∙ ap bit r.1)) in
          record { at_low = here; number_fits = rw (sym (own user.place user.some)) (number_low user.place (k / B)) }
        where
          here : k / B < G
          here = within (dec_lt (k / B) G)
            where
              within : Dec (k / B < G) → k / B < G
              within (yes lt) = lt
              within (no ge) =
                  let far : G * B ≤ k / B * B = mul-le-mul_right B (omega arith) in
                  absurd (omega (arith, r.0, div-add-mod' k B))

          own : (i : ℕ) → 0 < bit (mine i k) → number i (k / B) ≡ k % B
          own i some = sym (number_at i (k / B) here) ∙ by_test (not (k % B =? 0)) (part =? k % B) refl some
            where
              part : ℕ
              part = get_or (parts_of p q amounts c i) (k / B) 0

              by_test : (s t : Bool) → part =? k % B ≡ t → 0 < bit (s && t) → part ≡ k % B
              by_test s true e some = is_eq part (k % B) e
              by_test s false e some = absurd (omega (arith, and_false s))

  -- a payslip is not zero if it has a part that is not empty
  pub nonzero-sum : (i : ℕ) → bit (is_nonzero p q amounts c i) ≡ sign (sum_to G (λ g. sign (number i g)))
  unfolding is_nonzero
  nonzero-sum i =
      some-sum (λ g. not (get_or (parts_of p q amounts c i) g 0 =? 0)) G
      ∙ ap sign (sum_same G _ _ (λ g h. bit_not_zero (get_or (parts_of p q amounts c i) g 0) ∙ ap sign (number_at i g h)))

  -- the exponents of part t of group g in column d, and of the part with number k
  abbrev group_exponent : ℕ → ℕ → ℕ → ℕ
  group_exponent g t d = combined 1 (length (group c g (inputs p q amounts))) (λ j. exponent_in p q amounts (g * c + j)) t d

  abbrev part_exponent : ℕ → ℕ → ℕ
  part_exponent k d = group_exponent (k / B) (k % B) d

  nothing : (g d : ℕ) → group_exponent g 0 d ≡ 0
  nothing g d = combined_zero 1 (length (group c g (inputs p q amounts))) (omega arith) (λ j. exponent_in p q amounts (g * c + j)) d

  -- the inputs' exponents in column d
  abbrev pub used_exponents : ℕ → List ℕ
  used_exponents d = list_to (length U) (λ x. part_exponent (get_or U x 0) d)

  module _ (some : 1 ≤ c) where
    groups_amount : (i d : ℕ) → i < q → d < p → sum_to G (λ g. group_exponent g (number i g) d) ≡ amount p amounts i d
    groups_amount i d h k =
        parts-sum c (inputs p q amounts) (selection p q amounts i) (selection_long p q amounts i) (selection_two p q amounts i) (exponent_in p q amounts) G d
        ∙ selected p q amounts c some i d h k

    -- a payslip that is not nonzero has no amount that is not 0
    pub zero_amount : (i d : ℕ) → i < q → d < p → is_nonzero p q amounts c i ≡ false → amount p amounts i d ≡ 0
    zero_amount i d h k e =
        sym (groups_amount i d h k) ∙ sum-zero G _ (λ g l. ap (λ (t : ℕ). group_exponent g t d) (empty g l) ∙ nothing g d)
      where
        empty : (g : ℕ) → g < G → number i g ≡ 0
        empty g l =
            let sum : ℕ = sum_to G (λ g. sign (number i g)) in
            let none : sum ≡ 0 = sign_none sum (sym (nonzero-sum i) ∙ ap bit e) in
            sign_none (number i g) (omega (arith, none, le_sum G (λ g. sign (number i g)) g l))

    -- an output asks for its payslip's amounts
    pub slip_sum : (i d : ℕ) → i < q → d < p → total (λ x. get_or (used_exponents d) x 0) (of_slip i) ≡ amount p amounts i d
    slip_sum i d h k =
        slip_total (λ k. part_exponent k d) (λ x. get_or (used_exponents d) x 0) (λ x g. get_d_list (length U) _ 0 x g) i h
        ∙ sum_same G _ _ (λ g l. one g (number i g) (number_small i g))
        ∙ groups_amount i d h k
      where
        one : (g t : ℕ) → t < B → sign t * part_exponent (g * B + t) d ≡ group_exponent g t d
        one g zero l = zero-mul _ ∙ sym (nothing g d)
        one g (suc t) l = one-mul _ ∙ rw (block_div g B (suc t) l, block_mod g B (suc t) l)
