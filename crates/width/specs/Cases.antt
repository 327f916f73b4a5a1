-- The width of a file's numbers by cases, as receivers' staff look it up in their manual (Req 03; Spec 5.2).
use Rattle.std.specs.Prelude.{cond, ◌&&◌, List, [], ◌∷◌, ℕ}
use Rattle.chain.specs.Tests.{◌≤?◌}

-- Spec 5.2: a case is a bit range of the manual and its width: the numbers from first to last take that many bits
pub record Case : Type 0 where
  pub first : ℕ
  pub last : ℕ
  pub width : ℕ

infix 90 ◌to◌gives◌
abbrev pub ◌to◌gives◌ : ℕ → ℕ → ℕ → Case
first to last gives width = record { first = first; last = last; width = width }

-- Spec 5.2: the fourteen of them
abbrev pub cases : List Case
cases =
    1 to 1 gives 1
    ∷ 2 to 3 gives 2
    ∷ 4 to 7 gives 3
    ∷ 8 to 15 gives 4
    ∷ 16 to 31 gives 5
    ∷ 32 to 63 gives 6
    ∷ 64 to 127 gives 7
    ∷ 128 to 255 gives 8
    ∷ 256 to 511 gives 9
    ∷ 512 to 1023 gives 10
    ∷ 1024 to 2047 gives 11
    ∷ 2048 to 4095 gives 12
    ∷ 4096 to 8191 gives 13
    ∷ 8192 to 16383 gives 14
    ∷ []

-- Spec 5.2: the width in the case that a number is in; 0 where it is in none, as no file's p + n is
abbrev pub width_in : List Case → ℕ → ℕ
width_in [] x = 0
width_in (c ∷ rest) x = cond (c.first ≤? x && x ≤? c.last) c.width (width_in rest x)

-- Spec 5.2: W by cases, of p + n
unfoldable pub width_by_cases : ℕ → ℕ
width_by_cases x = width_in cases x
