-- An input makes its column's power of two, so a sum over inputs looks at one column at a time, and the bits of an amount add up to the amount.
use mathlib.Core.Path.{◌≡◌, sym, ap, ◌∙◌}
use mathlib.Core.List.{List}
use Prim.Native.Nat.{ℕ, zero, suc, ◌+◌, ◌*◌, ◌^◌, ◌≤◌, ◌<◌}
use native.Mathlib.Nat.{mul_comm, mul_assoc, one-mul, lt_of_le_of_lt, le_refl, pow-suc}
use native.Mathlib.Omega.{arith}
use lib.ListN.{length, get_or}
use lib.Pow.{pow_pos}
use Rattle.chain.specs.Chain.{most_amount}
use Rattle.chain.proofs.Exponents.{Makes, makes_like}
use Rattle.digits.specs.Digits.{digit}
use Rattle.digits.specs.Range.{sum_to}
use Rattle.digits.proofs.Range.{sum_same, sum-mul, le_max, max_low}
use Rattle.digits.proofs.Count.{bits_low, low_bits}
use Rattle.digits.proofs.Vector.{delta, digit_low, digit_zero, sum_delta, vector_own}
use Rattle.sheet.specs.Sheet.{amount}
use Rattle.methods.specs.Powers.{largest_in, squarings, power_of}
use Rattle.methods.proofs.Powers.{Powers, power_some}
use Rattle.tables.proofs.Entries.{Inputs}
use Rattle.groups.specs.Groups.{column_bits, column_squarings, input_count, inputs, over_inputs, selection}
use Rattle.groups.proofs.Inputs.{Place, get_d_over, length_over, place, sum_over}

module _ (p q : ℕ) (amounts : List ℕ) where
  abbrev bits : ℕ → ℕ
  bits = column_bits p q amounts

  -- the exponent of input j in column d
  unfoldable pub exponent_in : ℕ → ℕ → ℕ
  unfolding column_bits
  exponent_in j d = get_or (over_inputs bits (λ col i. delta col d * 2 ^ i) p) j 0

  pub members_count : length (inputs p q amounts) ≡ input_count p q amounts
  unfolding inputs
  members_count = length_over bits (power_of p (column_squarings p q amounts)) p

  pub selection_count : (i : ℕ) → length (selection p q amounts i) ≡ input_count p q amounts
  unfolding selection
  selection_count i = length_over bits (λ col j. digit 1 (amount p amounts i col) j) p

  -- an input is 1 or 0 in what a payslip takes
  pub selection_two : (i j : ℕ) → j < length (selection p q amounts i) → get_or (selection p q amounts i) j 0 < 2 ^ 1
  unfolding selection
  selection_two i j h =
      let f : ℕ → ℕ → ℕ = λ col k. digit 1 (amount p amounts i col) k in
      let r : Place bits p j = place bits p j (omega (arith, length_over bits f p)) in
      rw (r.here, get_d_over bits f p r.column r.power r.column_low r.power_low) (digit_low 1 (amount p amounts i r.column) r.power)

  -- where the payslip is all 0 it takes none
  pub selection_none : (i : ℕ) → ((d : ℕ) → d < p → amount p amounts i d ≡ 0)
      → (j : ℕ) → j < length (selection p q amounts i) → get_or (selection p q amounts i) j 0 ≡ 0
  unfolding selection
  selection_none i none j h =
      let f : ℕ → ℕ → ℕ = λ col k. digit 1 (amount p amounts i col) k in
      let r : Place bits p j = place bits p j (omega (arith, length_over bits f p)) in
      rw (r.here, get_d_over bits f p r.column r.power r.column_low r.power_low, none r.column r.column_low)
      (digit_zero 1 r.power)

  pub members_some : (j : ℕ) → j < length (inputs p q amounts) → 0 < get_or (inputs p q amounts) j 0
  unfolding inputs
  members_some j h =
      let n : ℕ → ℕ = column_squarings p q amounts in
      let r : Place bits p j = place bits p j (omega (arith, length_over bits (power_of p n) p)) in
      rw (r.here, get_d_over bits (power_of p n) p r.column r.power r.column_low r.power_low) (power_some p n r.column r.power)

  -- each input makes its power
  pub members_make : (limit : ℕ) → Powers p limit (column_squarings p q amounts) p
      → Inputs p (squarings p (column_squarings p q amounts) p) (inputs p q amounts) exponent_in
  unfolding inputs exponent_in
  members_make limit made = record { nonempty = members_some; makes = λ j h. each j (place bits p j (omega (arith, length_over bits (power_of p n) p))) }
    where
      n : ℕ → ℕ
      n = column_squarings p q amounts

      each : (j : ℕ) → Place bits p j
          → Makes p (squarings p n p) (get_or (over_inputs bits (power_of p n) p) j 0) (λ d. get_or (over_inputs bits (λ col i. delta col d * 2 ^ i) p) j 0)
      each j r =
          rw (r.here, get_d_over bits (power_of p n) p r.column r.power r.column_low r.power_low)
          (makes_like p _ _ _ _ (λ d h. sym (get_d_over bits (λ col i. delta col d * 2 ^ i) p r.column r.power r.column_low r.power_low))
          (made.makes r.column r.power r.column_low (omega (arith, r.power_low))))

  -- a sum over the inputs that looks at one column sees that column's powers alone
  one_column : (f : ℕ → ℕ → ℕ) (d : ℕ) → d < p
      → sum_to (input_count p q amounts) (λ j. get_or (over_inputs bits f p) j 0 * exponent_in j d) ≡ sum_to (bits d) (λ i. f d i * 2 ^ i)
  unfolding exponent_in
  one_column f d h =
      sum_over bits _ (λ col i. f col i * (delta col d * 2 ^ i)) p
      (λ col i g k. rw (get_d_over bits f p col i g k, get_d_over bits (λ col i. delta col d * 2 ^ i) p col i g k))
      ∙ sum_same p _ _ (λ col g. column col)
      ∙ sum_delta p (λ col. sum_to (bits col) (λ i. f col i * 2 ^ i)) d h
    where
      swap : (a b c : ℕ) → a * (b * c) ≡ a * c * b
      swap a b c = ap (λ (e : ℕ). a * e) (mul_comm b c) ∙ sym (mul_assoc a c b)

      column : (col : ℕ) → sum_to (bits col) (λ i. f col i * (delta col d * 2 ^ i)) ≡ delta col d * sum_to (bits col) (λ i. f col i * 2 ^ i)
      column col =
          sum_same (bits col) _ _ (λ i k. swap (f col i) (delta col d) (2 ^ i))
          ∙ sum-mul (bits col) (λ i. f col i * 2 ^ i) (delta col d)
          ∙ mul_comm _ (delta col d)

  -- the largest amount of a column has its bits
  column_fits : (d : ℕ) → largest_in p q amounts d < 2 ^ bits d
  unfolding column_bits
  column_fits d = bits_low (largest_in p q amounts d) (bits d) (le_refl (bits d))

  -- all inputs together have less than 2^b in a column of b bits
  pub members-sum : (d : ℕ) → d < p → sum_to (input_count p q amounts) (λ j. exponent_in j d) < 2 ^ bits d
  members-sum d h =
      rw (sum_same (input_count p q amounts) _ _ (λ j g. sym (one j g)) ∙ one_column (λ col i. 1) d h) (ones (bits d))
    where
      one : (j : ℕ) → j < input_count p q amounts → get_or (over_inputs bits (λ col i. 1) p) j 0 * exponent_in j d ≡ exponent_in j d
      one j g =
          let r : Place bits p j = place bits p j g in
          let is : get_or (over_inputs bits (λ col i. 1) p) j 0 ≡ 1 =
          ap (λ (k : ℕ). get_or (over_inputs bits (λ col i. 1) p) k 0) r.here ∙ get_d_over bits (λ col i. 1) p r.column r.power r.column_low r.power_low in
          rw is (one-mul (exponent_in j d))

      ones : (n : ℕ) → sum_to n (λ i. 1 * 2 ^ i) < 2 ^ n
      ones zero = pow_pos 0
      ones (suc n) = rw (pow-suc 2 n) (omega (arith, ones n, one-mul (2 ^ n)))

  -- where no amount is above 4,294,967,295, no column has more than 32 bits
  pub column_bits_lem : ((j : ℕ) → get_or amounts j 0 ≤ most_amount) → (d : ℕ) → bits d ≤ 32
  unfolding column_bits
  column_bits_lem low d =
      let most = max_low q (λ i. amount p amounts i d) most_amount (λ i h. low (i * p + d)) in
      low_bits (largest_in p q amounts d) 32 (omega arith)

  -- and so has each amount
  pub amount_fits : (i d : ℕ) → i < q → amount p amounts i d < 2 ^ bits d
  amount_fits i d h = lt_of_le_of_lt (le_max q (λ i. amount p amounts i d) i h) (column_fits d)

  -- what a payslip takes is its amount
  pub selection-sum : (i d : ℕ) → i < q → d < p
      → sum_to (input_count p q amounts) (λ j. get_or (selection p q amounts i) j 0 * exponent_in j d) ≡ amount p amounts i d
  unfolding selection
  selection-sum i d h g =
      one_column (λ col j. digit 1 (amount p amounts i col) j) d g
      ∙ sum_same (bits d) _ _ (λ j k. ap (λ (e : ℕ). digit 1 (amount p amounts i d) j * 2 ^ e) (sym (one-mul j)))
      ∙ vector_own 1 (amount p amounts i d) (bits d) (rw (one-mul (bits d)) (amount_fits i d h))
