-- Inner vocabulary: how the code finds lines and counts byte by byte, and bounds on what it counts. Nobody has to believe it to believe an entry point's promise.
use Rattle.std.specs.Prelude.{cond, List, [], ◌∷◌, ℕ, suc, ◌+◌, ◌^◌, ◌≤◌, ◌<◌}
use Rattle.chain.specs.Tests.{◌=?◌}
use Rattle.decimal.specs.Decimal.{newline}
use Rattle.text.specs.Text.{tab}
use Rattle.lines.specs.declared.Tally.{Tally}
use Rattle.lines.specs.Lines.{semicolon, comma, same_unit, digit_unit, is_blank}

-- how many bytes stand before a text's first newline
abbrev pub until_newline : List ℕ → ℕ
until_newline [] = 0
until_newline (b ∷ r) = cond (b =? newline) 0 (suc (until_newline r))

-- one more of each can be counted
pub record Low (t : Tally) : Type 0 where
  pub tabs_low : t.tabs + 1 < 2 ^ 64
  pub semicolons_low : t.semicolons + 1 < 2 ^ 64
  pub commas_low : t.commas + 1 < 2 ^ 64
  pub digits_low : t.digits + 1 < 2 ^ 64
  pub words_low : t.words + 1 < 2 ^ 64

-- what a byte more asks: a gap is 1 or 0
pub record TallyAsked (t : Tally) (gap : ℕ) : Type 0 where
  pub low : Low t
  pub gap_low : gap ≤ 1

-- 1 for a blank
unfoldable pub blank_unit : ℕ → ℕ
blank_unit b = cond (is_blank b) 1 0

-- a word begins at a byte that is no blank, at the start or after a blank: where the gap before it is 1
unfoldable pub begun : ℕ → ℕ → ℕ
begun gap b = cond (blank_unit b =? 0) gap 0

-- a byte more, after a gap or none
abbrev pub tallied : Tally → ℕ → ℕ → Tally
tallied t gap b =
    record {
      tabs = t.tabs + same_unit b tab;
      semicolons = t.semicolons + same_unit b semicolon;
      commas = t.commas + same_unit b comma;
      digits = t.digits + digit_unit b;
      words = t.words + begun gap b;
    }
