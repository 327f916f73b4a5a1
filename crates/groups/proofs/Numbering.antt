-- Cells filled in order hold a list that grows at its end: one number more, or a column's numbers more, after those laid already.
use mathlib.Core.Path.{◌≡◌, sym, ap, ◌∙◌}
use mathlib.Core.List.{List, [], ◌∷◌, ◌++◌}
use Prim.Native.Nat.{ℕ, suc, ◌+◌, ◌^◌, ◌≤◌, ◌<◌}
use native.Mathlib.Numerals.{add-one}
use native.Mathlib.Omega.{arith}
use lib.ListN.{length, get_or, set}
use Rattle.chain.specs.Written.{over, laid}
use Rattle.chain.proofs.Written.{laid_nil, laid_one, laid_laid, laid-length, over_laid}
use Rattle.digits.specs.Range.{sum_to, list_to}
use Rattle.digits.proofs.Range.{sum_more, sum_le}
use Rattle.methods.specs.Powers.{counts_of, power_at, power_of}
use Rattle.chain.specs.Chain.{most_columns}
use Rattle.digits.proofs.Listed.{length-list}
use Rattle.groups.specs.Groups.{most_inputs, over_inputs}
use Rattle.groups.specs.Inner.{InputsRoom, bit_inputs, bits_less}
use Rattle.groups.proofs.Inputs.{length_over}

-- one number more after those of a list, from cell s on
laid_next : (s : ℕ) (l old : List ℕ) (m x : ℕ) → m ≡ s + length l → m < length old → set (laid s l old) m x ≡ laid s (l ++ x ∷ []) old
laid_next s l old m x is h =
    let long : length (laid s l old) ≡ length old = laid-length s l old (omega arith) in
    sym (sym (laid_laid s m l (x ∷ []) old is (omega arith)) ∙ sym (laid_one m x [] (laid s l old) (omega arith)) ∙ laid_nil (m + 1) _)

pub fill_start : (s : ℕ) (old : List ℕ) → old ≡ laid s [] old
fill_start s old = sym (laid_nil s old)

-- the numbers f 0, f 1, .. from cell s on
module _ (f : ℕ → ℕ) where
  pub filled_on : (s n j x : ℕ) (old cells : List ℕ) → x ≡ f j → j < n → s + n ≤ length old → cells ≡ laid s (list_to j f) old
      → set cells (s + j) x ≡ laid s (list_to (j + 1) f) old
  filled_on s n j x old cells is h g e =
      rw (add-one j, e, is) (laid_next s (list_to j f) old (s + j) (f j) (omega (arith, length-list j f)) (omega arith))

  pub filled_end : (s n j : ℕ) (old cells : List ℕ) → cells ≡ laid s (list_to j f) old → j ≤ n → n ≤ j → cells ≡ laid s (list_to n f) old
  filled_end s n j old cells e h g = let last : n ≡ j = omega arith in rw last e

-- a column's numbers after those of the columns before
columns_on : (bits : ℕ → ℕ) (f : ℕ → ℕ → ℕ) (col at : ℕ) (old cells cells' : List ℕ) → at ≡ sum_to col bits
    → cells ≡ over (over_inputs bits f col) old → cells' ≡ laid at (list_to (bits col) (f col)) cells → cells' ≡ over (over_inputs bits f (col + 1)) old
columns_on bits f col at old cells cells' is e g =
    rw (add-one col)
    (g
    ∙ ap (laid at (list_to (bits col) (f col))) (e ∙ over_laid (over_inputs bits f col) old)
    ∙ laid_laid 0 at (over_inputs bits f col) (list_to (bits col) (f col)) old (omega (arith, length_over bits f col)) (omega arith)
    ∙ sym (over_laid _ old))

-- the inputs of columns of these bits; the numbers of the first columns fill the cells before at, and their squarings end with value first
module _ {bits old : List ℕ} (room : InputsRoom bits old) (col : ℕ) {at first : ℕ} (is : at ≡ sum_to col (counts_of bits))
    (after : first ≡ length bits + sum_to col (bits_less bits 1)) (inside : col < length bits) where
  abbrev less : ℕ → ℕ
  less = bits_less bits 1

  pub column_few : at + get_or bits col 0 ≤ most_inputs
  column_few = let few = room.few in omega (arith, sum_more (counts_of bits) (suc col) (length bits) inside)

  pub column_room : (cells : List ℕ) → length cells ≡ length old → at + get_or bits col 0 ≤ length cells
  column_room cells e = let r = room.room in omega (arith, column_few)

  -- their numbers are small
  pub first_few : first + get_or bits col 0 ≤ most_columns + most_inputs
  first_few =
      let columns = room.columns in
      omega (arith, column_few, sum_le col less (counts_of bits) (λ k h. omega arith))

  pub first_number : first + less col ≤ most_columns + most_inputs
  first_number = omega (arith, first_few)

  pub number_room : first + get_or bits col 0 < 2 ^ 32
  number_room = omega (arith, first_few)

  pub column_on : at + get_or bits col 0 ≡ sum_to (col + 1) (counts_of bits)
  column_on = rw (add-one col) (ap (λ (n : ℕ). n + get_or bits col 0) is)

  pub first_on : {n : ℕ} → n ≡ less col → first + n ≡ length bits + sum_to (col + 1) less
  first_on e = rw (add-one col) (omega arith)

  pub inputs_on : {cells cells' : List ℕ} → cells ≡ over (bit_inputs bits col) old → cells' ≡ laid at (list_to (get_or bits col 0) (power_at col first)) cells
      → cells' ≡ over (bit_inputs bits (col + 1)) old
  inputs_on {cells} {cells'} e g =
      columns_on (counts_of bits) (power_of (length bits) less) col at old cells cells' is e
      (g ∙ ap (λ (k : ℕ). laid at (list_to (get_or bits col 0) (power_at col k)) cells) after)
