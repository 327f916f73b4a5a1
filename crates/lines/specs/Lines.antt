-- The lines of a text, and what a table's line has (Spec 12.2).
use Rattle.std.specs.Prelude.{Bool, cond, List, [], ◌∷◌, ℕ, suc, ◌+◌, ◌-◌, length, get_or, take}
use Rattle.chain.specs.Tests.{◌<?◌, ◌=?◌, ◌or◌}
use Rattle.decimal.specs.Decimal.{blank, newline}
use Rattle.text.specs.Text.{tab, return, first_digit, last_digit}
use Rattle.text.specs.declared.Parting.{Parting}
use Rattle.text.specs.declared.Parting.TheVariants.{Free, Words, Fields}
use Rattle.lines.specs.declared.Tally.{Tally}
use Rattle.lines.specs.declared.Head.{Head}

abbrev pub semicolon : ℕ
semicolon = 59

abbrev pub comma : ℕ
comma = 44

-- a byte before the first of some lines
abbrev pub on_first : ℕ → List (List ℕ) → List (List ℕ)
on_first b [] = (b ∷ []) ∷ []
on_first b (l ∷ ls) = (b ∷ l) ∷ ls

-- a text cut at the bytes that part it, which are left out
abbrev pub cut_at : (ℕ → Bool) → List ℕ → List (List ℕ)
cut_at parts [] = []
cut_at parts (b ∷ r) = cond (parts b) ([] ∷ cut_at parts r) (on_first b (cut_at parts r))

-- the lines of a text, without their newlines
abbrev pub lines_of : List ℕ → List (List ℕ)
lines_of text = cut_at (λ b. b =? newline) text

-- a line's content: a carriage return right before the newline belongs to the line's end
unfoldable pub content_length : List ℕ → ℕ
content_length line = cond (get_or line (length line - 1) 0 =? return) (length line - 1) (length line)

abbrev pub content_of : List ℕ → List ℕ
content_of line = take (content_length line) line

-- what a byte counts
unfoldable pub same_unit : ℕ → ℕ → ℕ
same_unit b other = cond (b =? other) 1 0

unfoldable pub digit_unit : ℕ → ℕ
digit_unit b = cond (b <? first_digit or last_digit <? b) 0 1

-- how many bytes of a line count
abbrev pub counted : (ℕ → ℕ) → List ℕ → ℕ
counted unit [] = 0
counted unit (b ∷ r) = unit b + counted unit r

-- blanks and tabs part words
abbrev pub is_blank : ℕ → Bool
is_blank b = b =? blank or b =? tab

-- how many parts are not empty
abbrev pub filled : List (List ℕ) → ℕ
filled [] = 0
filled ([] ∷ ls) = filled ls
filled ((b ∷ l) ∷ ls) = suc (filled ls)

-- what a line has; its words are the parts between blanks that are not empty
unfoldable pub tally_of : List ℕ → Tally
tally_of line =
    record {
      tabs = counted (λ b. same_unit b tab) line;
      semicolons = counted (λ b. same_unit b semicolon) line;
      commas = counted (λ b. same_unit b comma) line;
      digits = counted digit_unit line;
      words = filled (cut_at is_blank line);
    }

-- a first line's separator: a tab, else a semicolon, else a comma, else blanks
unfoldable pub parting_of : Tally → Parting
parting_of t =
    cond (0 <? t.tabs) (Fields tab)
    (cond (0 <? t.semicolons) (Fields semicolon)
    (cond (0 <? t.commas) (Fields comma)
    Words))

-- how many of a separator a line has
unfoldable pub separators_in : ℕ → Tally → ℕ
separators_in s t =
    cond (s =? tab) t.tabs
    (cond (s =? semicolon) t.semicolons
    t.commas)

-- fields: one more than separators, or words
abbrev pub fields_in : Tally → Parting → ℕ
fields_in t Free = t.words
fields_in t Words = t.words
fields_in t (Fields s) = separators_in s t + 1

-- what a first line says of a table
unfoldable pub head_of : List ℕ → Head
head_of line =
    let t = tally_of line in
    record { by = parting_of t; fields = fields_in t (parting_of t); digits = t.digits; stop = length line }
