-- A file's length is its header and a width for each operand and output; since p + n is below 2 ^ widest, so is every product in it bounded.
use mathlib.Core.Path.{◌≡◌, refl, ap}
use mathlib.Core.List.{List, ◌++◌}
use Prim.Native.Nat.{ℕ, ◌+◌, ◌-◌, ◌*◌, ◌^◌, ◌≤◌, ◌<◌}
use native.Mathlib.Nat.{add-mul, mul-le-mul}
use native.Mathlib.Omega.{arith}
use lib.ListN.{length, length-append}
use Rattle.chain.specs.Chain.{most_columns, most_payslips, flat}
use Rattle.chain.specs.declared.Step.{Step}
use Rattle.chain.proofs.Pairs.{length-flat}
use Rattle.digits.specs.Digits.{digit_count, bit_length}
use Rattle.digits.proofs.Count.{bits_low, low_bits, bits_some}
use Rattle.bits.specs.Bits.{bits, fields}
use Rattle.bits.proofs.Values.{length-bits}
use Rattle.bits.proofs.Fields.{length_fields}
use Rattle.bits.proofs.Pack.{length-pack}
use Rattle.layout.specs.declared.Layout.{Layout}
use Rattle.layout.specs.Layout.{edition1}
use Rattle.layout.specs.File.{header_bits, header_size, width, widest, file_bits, file_of, bit_count, byte_count, most_bytes, longest_file}
use Rattle.layout.specs.Inner.{SoundLayout, Sized}

-- the width of a file's fields
module _ (p n : ℕ) where
  pub width_some : 1 ≤ p → 1 ≤ width p n
  width_some h = bits_some (p + n) (omega arith)

  -- every value's number fits
  pub width_holds : (x : ℕ) → x ≤ p + n → x < 2 ^ width p n
  width_holds x h = omega (arith, bits_low (p + n) (width p n) (omega arith))

module _ (L : Layout) (p q n : ℕ) where
  pub count_parts : bit_count L p q n ≡ header_size L + 2 * n * width p n + q * width p n
  count_parts = omega (arith, add-mul (2 * n) q (width p n))

  pub length_header : length (header_bits L p q n) ≡ header_size L
  length_header =
      omega (
        arith,
        length-append (bits 4 L.edition ++ bits 4 (p - 1) ++ bits 6 (q - 1)) (bits L.bits n),
        length-append (bits 4 L.edition ++ bits 4 (p - 1)) (bits 6 (q - 1)),
        length-append (bits 4 L.edition) (bits 4 (p - 1)),
        length-bits 4 L.edition,
        length-bits 4 (p - 1),
        length-bits 6 (q - 1),
        length-bits L.bits n,
      )

-- bounds, for sizes that the layout holds
module _ (L : Layout) (sound : SoundLayout L) (p q n : ℕ) (sized : Sized L p q n) where
  pub top_low : p + n < 2 ^ widest
  top_low = omega (arith, sound.narrow, sized.p_low, sized.n_low)

  pub width_low : width p n ≤ widest
  width_low = low_bits (p + n) widest top_low

  fields_low : (2 * n + q) * width p n ≤ (2 * L.limit + most_payslips) * widest
  fields_low = mul-le-mul {n₂ = 2 * L.limit + most_payslips} {m₂ = widest} (omega (arith, sized.q_low, sized.n_low)) width_low

  -- far from the end of a usize
  pub count_fits : bit_count L p q n < 2 ^ 32
  count_fits = omega (arith, fields_low, sound.narrow, sound.short)

  -- no file is longer than the longest
  pub count_most : byte_count L p q n ≤ most_bytes L
  count_most = omega (arith, fields_low)

-- the longest file of edition 1 is that of the largest sizes, and the number that Spec 5.4 names
pub longest_reached : byte_count edition1 most_columns most_payslips edition1.limit ≡ longest_file
unfolding bit_length digit_count
longest_reached = refl

pub longest_is : longest_file ≡ 56116
longest_is = refl

module _ (L : Layout) (p : ℕ) (steps : List Step) (outputs : List ℕ) where
  pub length-file_bits : length (file_bits L p steps outputs) ≡ bit_count L p (length outputs) (length steps)
  unfolding file_bits
  length-file_bits =
      let n : ℕ = length steps in
      let q : ℕ = length outputs in
      let w : ℕ = width p n in
      omega (
        arith,
        length-append (header_bits L p q n) (fields w (flat steps) ++ fields w outputs),
        length-append (fields w (flat steps)) (fields w outputs),
        length_header L p q n,
        length_fields w (flat steps),
        length_fields w outputs,
        ap (λ (k : ℕ). k * w) (length-flat steps),
        count_parts L p q n,
      )

  pub length-file : length (file_of L p steps outputs) ≡ byte_count L p (length outputs) (length steps)
  unfolding file_of
  length-file = length-pack _ (file_bits L p steps outputs)
