-- Lines are found by their newlines, and a line is counted byte by byte: what is left of it leads from the tally at hand to that of the whole.
use mathlib.Core.Path.{◌≡◌, refl, sym, ap, ◌∙◌}
use mathlib.Core.Bool.{Bool, true, false, cond}
use mathlib.Core.List.{List, [], ◌∷◌}
use Prim.Native.Nat.{ℕ, suc, ◌+◌, ◌-◌, ◌^◌, ◌≤◌, ◌<◌}
use native.Mathlib.Nat.{zero-add}
use native.Mathlib.Decide.{ℕ_discrete}
use native.Mathlib.Numerals.{add-one}
use native.Mathlib.Omega.{arith}
use lib.Dec.{eqb}
use lib.ListN.{length, get_or, take, drop, length-drop, drop_of_length-le}
use lib.Seq.{drop-cons, length-take-le, take_all}
use Rattle.std.specs.Prelude.{Option, Some, None, nat_lt}
use borrow.Author.Tests.{ltb-false}
use Rattle.std.specs.List.{position, position_or_len}
use Rattle.std.proofs.lemmas.List.Recursion.{is_position_or_len}
use Rattle.chain.specs.Tests.{◌<?◌, ◌=?◌, ◌or◌}
use Rattle.chain.proofs.Rules.{eq_yes, eq_no}
use Rattle.decimal.specs.Decimal.{newline}
use Rattle.text.specs.Text.{tab, return, first_digit, last_digit}
use Rattle.text.specs.declared.Parting.{Parting}
use Rattle.lines.specs.declared.Tally.{Tally}
use Rattle.lines.specs.declared.Head.{Head}
use Rattle.lines.specs.Lines.{semicolon, comma, on_first, cut_at, lines_of, content_length, content_of, same_unit, digit_unit, counted, is_blank, filled, tally_of, parting_of, separators_in, fields_in, head_of}
use Rattle.lines.specs.Inner.{until_newline, Low, blank_unit, begun, tallied}

-- a text's first line, and the lines after it
pub line_first : (b : ℕ) (r : List ℕ)
    → lines_of (b ∷ r) ≡ take (until_newline (b ∷ r)) (b ∷ r) ∷ lines_of (drop (suc (until_newline (b ∷ r))) (b ∷ r))
line_first b [] = by_byte (ℕ_discrete b newline)
  where
    by_byte : Dec (b ≡ newline) → lines_of (b ∷ []) ≡ take (until_newline (b ∷ [])) (b ∷ []) ∷ lines_of (drop (suc (until_newline (b ∷ []))) (b ∷ []))
    by_byte (yes h) = rw (eq_yes b newline h)
    by_byte (no h) = rw (eq_no b newline h)
line_first b (c ∷ s) = by_byte (ℕ_discrete b newline) (line_first c s)
  where
    by_byte : Dec (b ≡ newline) → lines_of (c ∷ s) ≡ take (until_newline (c ∷ s)) (c ∷ s) ∷ lines_of (drop (suc (until_newline (c ∷ s))) (c ∷ s))
        → lines_of (b ∷ (c ∷ s)) ≡ take (until_newline (b ∷ (c ∷ s))) (b ∷ (c ∷ s)) ∷ lines_of (drop (suc (until_newline (b ∷ (c ∷ s)))) (b ∷ (c ∷ s)))
    by_byte (yes h) ih = rw (eq_yes b newline h)
    by_byte (no h) ih = rw (eq_no b newline h) (ap (on_first b) ih)

until_within : (t : List ℕ) → until_newline t ≤ length t
until_within [] = omega arith
until_within (b ∷ r) = by_test (b =? newline) (until_within r)
  where
    by_test : (t : Bool) → until_newline r ≤ length r → cond t 0 (suc (until_newline r)) ≤ suc (length r)
    by_test true h = omega arith
    by_test false h = omega arith

-- a line ends within its text
pub end_within : (text : List ℕ) (at end : ℕ) → at ≤ length text → end ≡ at + until_newline (drop at text) → (at ≤ end) × (end ≤ length text)
end_within text at end h e = (omega arith, omega (arith, until_within (drop at text), length-drop at text))

-- the newline sought
abbrev pub is_newline : ℕ → Bool
is_newline b = eqb b newline

until_is : (t : List ℕ) → until_newline t ≡ position_or_len is_newline t
unfolding ◌=?◌
until_is t =
    is_position_or_len until_newline is_newline refl
    (λ b r. let e : suc (until_newline r) ≡ 1 + until_newline r = omega arith in ap (cond (is_newline b) 0) e) t

-- the bytes from a place on, as a slice has them
pub rest_part : (text : List ℕ) (at : ℕ) → take (length text - at) (drop at text) ≡ drop at text
rest_part text at = take_all (length text - at) (drop at text) (omega (arith, length-drop at text))

module _ (text : List ℕ) (at : ℕ) (within : at ≤ length text) (r : Option ℕ) (e : r ≡ position is_newline (drop at text)) where
  pub end_found : (i : ℕ) → r ≡ Some i → at + i ≡ at + until_newline (drop at text)
  end_found i h = rw (until_is (drop at text)) (ap (λ (n : ℕ). at + n) (sym (by_test (nat_lt n (length (drop at text))) (sym e ∙ h))))
    where
      n : ℕ
      n = position_or_len is_newline (drop at text)

      by_test : (t : Bool) → cond t (Some n) None ≡ Some i → n ≡ i
      by_test true g = cc
      by_test false g = cc

  pub end_none : r ≡ None → length text ≡ at + until_newline (drop at text)
  end_none h = by_test (nat_lt n (length (drop at text))) (λ g. ltb-false n (length (drop at text)) g) (sym e ∙ h)
    where
      n : ℕ
      n = position_or_len is_newline (drop at text)

      by_test : (t : Bool) → (t ≡ false → length (drop at text) ≤ n) → cond t (Some n) None ≡ None → length text ≡ at + until_newline (drop at text)
      by_test true low g = cc
      by_test false low g = omega (arith, low refl, until_is (drop at text), until_within (drop at text), length-drop at text)

-- a line's content lies within it
content_within : (line : List ℕ) → content_length line ≤ length line
unfolding content_length
content_within line = by_test (get_or line (length line - 1) 0 =? return)
  where
    by_test : (t : Bool) → cond t (length line - 1) (length line) ≤ length line
    by_test true = omega arith
    by_test false = omega arith

pub content_long : (line : List ℕ) (n : ℕ) → n ≡ content_length line → n ≡ length (take n line)
content_long line n e = sym (length-take-le n line (omega (arith, content_within line)))

-- what a byte counts is 1 at most
unit : (t : Bool) → (cond t 1 0 ≤ 1) × (cond t 0 1 ≤ 1)
unit true = (omega arith, omega arith)
unit false = (omega arith, omega arith)

pub same_low : (b other : ℕ) → same_unit b other ≤ 1
unfolding same_unit
same_low b other = (unit (b =? other)).0

pub digit_low : (b : ℕ) → digit_unit b ≤ 1
unfolding digit_unit
digit_low b = (unit (b <? first_digit or last_digit <? b)).1

pub blank_low : (b : ℕ) → blank_unit b ≤ 1
unfolding blank_unit
blank_low b = (unit (is_blank b)).0

pub begun_low : (gap b : ℕ) → begun gap b ≤ gap
unfolding begun
begun_low gap b = by_test (blank_unit b =? 0)
  where
    by_test : (t : Bool) → cond t gap 0 ≤ gap
    by_test true = omega arith
    by_test false = omega arith

pub ruleset units = (same_low, digit_low, begun_low)

-- two tallies that are the same count by count
tally_same : (t u : Tally) → t.tabs ≡ u.tabs → t.semicolons ≡ u.semicolons → t.commas ≡ u.commas → t.digits ≡ u.digits → t.words ≡ u.words → t ≡ u
tally_same t u e1 e2 e3 e4 e5 =
    let made : ℕ → ℕ → ℕ → ℕ → ℕ → Tally = λ k l m n w. record { tabs = k; semicolons = l; commas = m; digits = n; words = w } in
    let same : made t.tabs t.semicolons t.commas t.digits t.words ≡ u = rw (e1, e2, e3, e4, e5) in
    same

-- no more is counted than there are bytes
counted_low : (unit : ℕ → ℕ) → ((b : ℕ) → unit b ≤ 1) → (l : List ℕ) → counted unit l ≤ length l
counted_low unit low [] = omega arith
counted_low unit low (b ∷ r) = omega (arith, low b, counted_low unit low r)

filled_low : (l : List ℕ) → filled (cut_at is_blank l) ≤ length l
filled_low [] = omega arith
filled_low (b ∷ r) = by_test (is_blank b) (cut_at is_blank r) (filled_low r)
  where
    by_test : (t : Bool) (ls : List (List ℕ)) → filled ls ≤ length r → filled (cond t ([] ∷ ls) (on_first b ls)) ≤ suc (length r)
    by_test true ls h = omega arith
    by_test false [] h = omega arith
    by_test false ([] ∷ ls) h = omega arith
    by_test false ((c ∷ l) ∷ ls) h = omega arith

-- how many words begin in a line, after a gap or none
abbrev beginning : ℕ → List ℕ → ℕ
beginning gap [] = 0
beginning gap (b ∷ r) = begun gap b + beginning (blank_unit b) r

-- the parts after the first
abbrev others : List (List ℕ) → List (List ℕ)
others [] = []
others (l ∷ ls) = ls

-- after a gap all words begin; after none the first part is the end of a word that has begun
words_begin : (l : List ℕ) → (beginning 1 l ≡ filled (cut_at is_blank l)) × (beginning 0 l ≡ filled (others (cut_at is_blank l)))
unfolding ◌=?◌ blank_unit begun
words_begin [] = (refl, refl)
words_begin (b ∷ r) = by_test (is_blank b) (cut_at is_blank r) (words_begin r)
  where
    by_test : (t : Bool) (ls : List (List ℕ)) → (beginning 1 r ≡ filled ls) × (beginning 0 r ≡ filled (others ls))
        → (cond (cond t 1 0 =? 0) 1 0 + beginning (cond t 1 0) r ≡ filled (cond t ([] ∷ ls) (on_first b ls)))
        × (cond (cond t 1 0 =? 0) 0 0 + beginning (cond t 1 0) r ≡ filled (others (cond t ([] ∷ ls) (on_first b ls))))
    by_test true ls h = (omega (arith, h.0), omega (arith, h.0))
    by_test false [] h = (omega (arith, h.1), omega (arith, h.1))
    by_test false (l ∷ ls) h = (omega (arith, h.1), omega (arith, h.1))

-- a separator more
pub separators_low : (s : ℕ) (t : Tally) → Low t → separators_in s t + 1 < 2 ^ 64
unfolding separators_in
separators_low s t low = by_test (s =? tab) (s =? semicolon)
  where
    by_test : (u v : Bool) → cond u t.tabs (cond v t.semicolons t.commas) + 1 < 2 ^ 64
    by_test true v = low.tabs_low
    by_test false true = low.semicolons_low
    by_test false false = low.commas_low

-- the tally so far: with what is left of the line it is the whole line's
pub record Tallies (line : List ℕ) (t : Tally) (gap i : ℕ) : Type 0 where
  pub gap_low : gap ≤ 1
  pub tabs_left : t.tabs + counted (λ b. same_unit b tab) (drop i line) ≡ (tally_of line).tabs
  pub semicolons_left : t.semicolons + counted (λ b. same_unit b semicolon) (drop i line) ≡ (tally_of line).semicolons
  pub commas_left : t.commas + counted (λ b. same_unit b comma) (drop i line) ≡ (tally_of line).commas
  pub digits_left : t.digits + counted digit_unit (drop i line) ≡ (tally_of line).digits
  pub words_left : t.words + beginning gap (drop i line) ≡ (tally_of line).words

abbrev pub tally_start : Tally
tally_start = record { tabs = 0; semicolons = 0; commas = 0; digits = 0; words = 0 }

module _ (line : List ℕ) where
  tally_low : length line + 1 < 2 ^ 64 → Low (tally_of line)
  unfolding tally_of
  tally_low h =
      record {
        tabs_low = omega (arith, counted_low (λ b. same_unit b tab) (λ b. same_low b tab) line);
        semicolons_low = omega (arith, counted_low (λ b. same_unit b semicolon) (λ b. same_low b semicolon) line);
        commas_low = omega (arith, counted_low (λ b. same_unit b comma) (λ b. same_low b comma) line);
        digits_low = omega (arith, counted_low digit_unit digit_low line);
        words_low = omega (arith, filled_low line);
      }

  pub tally_start_lem : Tallies line tally_start 1 0
  unfolding tally_of
  tally_start_lem =
      record {
        gap_low = omega arith;
        tabs_left = zero-add _;
        semicolons_left = zero-add _;
        commas_left = zero-add _;
        digits_left = zero-add _;
        words_left = zero-add _ ∙ (words_begin line).0;
      }

  module _ (t : Tally) (gap i : ℕ) (s : Tallies line t gap i) where
    pub tally_room : length line + 1 < 2 ^ 64 → Low t
    tally_room h =
        let low = tally_low h in
        record {
          tabs_low = omega (arith, s.tabs_left, low.tabs_low);
          semicolons_low = omega (arith, s.semicolons_left, low.semicolons_low);
          commas_low = omega (arith, s.commas_left, low.commas_low);
          digits_low = omega (arith, s.digits_left, low.digits_low);
          words_low = omega (arith, s.words_left, low.words_low);
        }

    pub tally_next : (t' : Tally) (gap' : ℕ) → i < length line → t' ≡ tallied t gap (get_or line i 0) → gap' ≡ blank_unit (get_or line i 0)
        → Tallies line t' gap' (i + 1)
    tally_next t' gap' h e g =
        let b : ℕ = get_or line i 0 in
        let byte : drop i line ≡ b ∷ drop (i + 1) line = rw (add-one i) (drop-cons line i 0 h) in
        rw (e, g)
        (record {
          gap_low = blank_low b;
          tabs_left = omega (arith, s.tabs_left, ap (counted (λ c. same_unit c tab)) byte);
          semicolons_left = omega (arith, s.semicolons_left, ap (counted (λ c. same_unit c semicolon)) byte);
          commas_left = omega (arith, s.commas_left, ap (counted (λ c. same_unit c comma)) byte);
          digits_left = omega (arith, s.digits_left, ap (counted digit_unit) byte);
          words_left = omega (arith, s.words_left, ap (beginning gap) byte);
        })

    pub tally_end : length line ≤ i → t ≡ tally_of line
    tally_end h =
        let none : drop i line ≡ [] = drop_of_length-le line h in
        tally_same t (tally_of line)
        (omega (arith, s.tabs_left, ap (counted (λ c. same_unit c tab)) none))
        (omega (arith, s.semicolons_left, ap (counted (λ c. same_unit c semicolon)) none))
        (omega (arith, s.commas_left, ap (counted (λ c. same_unit c comma)) none))
        (omega (arith, s.digits_left, ap (counted digit_unit) none))
        (omega (arith, s.words_left, ap (beginning gap) none))

-- a line's head, as the code makes it
pub head_is : (line : List ℕ) (t : Tally) (by : Parting) (fields : ℕ) → t ≡ tally_of line → by ≡ parting_of t → fields ≡ fields_in t by
    → record { by = by; fields = fields; digits = t.digits; stop = length line } ≡ head_of line
unfolding head_of
head_is line t by fields e f g = rw (← e, ← f, g)

-- a tally made by the code
pub tally_made : (line : List ℕ) (t : Tally) → t ≡ tally_of line → length line + 1 < 2 ^ 64 → Low t
tally_made line t e h = rw e (tally_low line h)

-- a head's end lies within its line
pub head_low : (line : List ℕ) (h : Head) → h ≡ head_of (content_of line) → h.stop ≤ length line
unfolding head_of
head_low line h e =
    let stop : h.stop ≡ length (content_of line) = ap (λ (g : Head). g.stop) e in
    omega (arith, length-take-le (content_length line) line (content_within line), content_within line)
