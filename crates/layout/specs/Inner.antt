-- Inner vocabulary: what the code asks of a layout, and a chain's sizes as it hands them on. Nobody has to believe it to believe an entry point's promise.
use Rattle.std.specs.Prelude.{ℕ, ◌+◌, ◌*◌, ◌^◌, ◌≤◌, ◌<◌}
use Rattle.chain.specs.Chain.{most_columns, most_payslips}
use Rattle.layout.specs.declared.Layout.{Layout}
use Rattle.layout.specs.declared.Extent.{Extent}
use Rattle.layout.specs.File.{width, widest, header_size, bit_count, byte_count}

-- a layout that can be written and read back: its numbers fit their fields, its header takes four bytes and no more, and its widths are found by cases
pub record SoundLayout (L : Layout) : Type 0 where
  pub edition_fits : L.edition < 2 ^ 4
  pub long : 8 * 3 < header_size L
  pub short : header_size L ≤ 8 * 4
  pub counted : L.limit < 2 ^ L.bits
  pub narrow : most_columns + L.limit < 2 ^ widest

-- sizes that the layout holds
pub record Sized (L : Layout) (p q n : ℕ) : Type 0 where
  pub p_some : 1 ≤ p
  pub p_low : p ≤ most_columns
  pub q_low : q ≤ most_payslips
  pub n_low : n ≤ L.limit

-- a layout that can be written and read back, and sizes that it holds
pub record LayoutHolds (L : Layout) (p q n : ℕ) : Type 0 where
  pub sound : SoundLayout L
  pub sized : Sized L p q n

-- sizes, with what they come to: the width of a field, where the steps begin, the bits before the filling, and the bytes with it
abbrev pub extent_of : Layout → ℕ → ℕ → ℕ → Extent
extent_of L p q n =
    record { p = p; q = q; n = n; width = width p n; start = header_size L; total = bit_count L p q n; bytes = byte_count L p q n }
