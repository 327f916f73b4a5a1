-- Inner vocabulary: what is kept of a modulus, and what a product asks. Nobody has to believe it to believe an entry point's promise.
use Rattle.std.specs.Prelude.{◌≡◌, ℕ, ◌-◌, ◌/◌, ◌^◌, ◌<◌}

-- the largest number that times m stays below 2 ^ 64
abbrev pub inverse_of : ℕ → ℕ
inverse_of m = (2 ^ 64 - 1) / m

-- what the product of two residues asks
pub record TimesAsked (m inverse : ℕ) : Type 0 where
  pub modulus : 0 < m
  pub inverse_is : inverse ≡ inverse_of m
