-- The widths in a chain's file in any layout L: they are found by cases, and are the bit length (Req 03; Spec 5.1 to 5.3).
use Rattle.std.specs.Prelude.{◌≡◌, List, ℕ, ◌+◌, ◌*◌, length}
use Rattle.chain.specs.Chain.{flat}
use Rattle.chain.specs.declared.Step.{Step}
use Rattle.digits.specs.Digits.{bit_length}
use Rattle.width.specs.Cases.{width_by_cases}
use Rattle.bits.specs.Bits.{bytes_for, fields_at}
use Rattle.layout.specs.declared.Layout.{Layout}
use Rattle.layout.specs.File.{columns_of, length_of, header_size}

-- Spec 5.2: W as receivers' staff find it, in the case of the p + n that a file's header states
abbrev pub width_stated : Layout → List ℕ → ℕ
width_stated L file = width_by_cases (columns_of file + length_of L file)

-- Req 03: every width in the file of a chain remains the bit length of p + n
pub record WidthsByCases (L : Layout) (p : ℕ) (steps : List Step) (outputs file : List ℕ) : Type 0 where
  -- Spec 5.2: the width found is the bit length
  pub is_bit_length : width_stated L file ≡ bit_length (p + length steps)
  -- Spec 5.1: and every field past the header has it: the operands of the steps in turn,
  pub operands_fill : fields_at file (header_size L) (width_stated L file) (2 * length steps) ≡ flat steps
  -- then the outputs,
  pub outputs_fill : fields_at file (header_size L + 2 * length steps * width_stated L file) (width_stated L file) (length outputs) ≡ outputs
  -- Spec 5.3: with which the file ends, but for the filling
  pub long : length file ≡ bytes_for (header_size L + (2 * length steps + length outputs) * width_stated L file)
