-- What a table comes to, by its tests: cut off, without lines, out of range, with names or without.
use mathlib.Core.Path.{◌≡◌, refl, sym, ap, ◌∙◌}
use mathlib.Core.Bool.{Bool, true, false}
use mathlib.Core.List.{List, [], ◌∷◌}
use Prim.Native.Nat.{ℕ, ◌+◌, ◌-◌, ◌≤◌, ◌<◌}
use native.Mathlib.Omega.{arith}
use lib.ListN.{length, take, drop, drop_of_length-le}
use Rattle.chain.specs.Chain.{most_columns}
use Rattle.chain.proofs.Rules.{lt_yes, lt_no, eq_yes, eq_no, or_left, or_right, or_none}
use Rattle.std.specs.Prelude.{Err}
use Rattle.places.specs.declared.Fault.{Fault}
use Rattle.places.specs.declared.Fault.TheVariants.{OutOfRange}
use Rattle.places.specs.declared.Refusal.{Refusal}
use Rattle.places.specs.Places.{is_cut, cut_text, Read, refused}
use Rattle.text.specs.Text.{Outcome, outcome}
use Rattle.text.specs.Inner.{ReadTo}
use Rattle.text.proofs.Outcomes.{over_none, read_same}
use Rattle.lines.specs.Lines.{lines_of, content_of, head_of}
use Rattle.lines.specs.Inner.{until_newline}
use Rattle.lines.specs.declared.Head.{Head}
use Rattle.table.specs.Table.{rows_from, headed, table_lines, table_in}
use Rattle.table.proofs.Rows.{lines_at}

-- an outcome without amounts
read_none : (o : Outcome) (old : List ℕ) (a a' : Read) → outcome a [] ≡ o → a' ≡ a → ReadTo o old a' old
read_none o old a a' e same = read_same _ _ old a' old e (record { answered = same; stored = over_none old })

module _ (h : Head) (n : ℕ) (all rest : List (List ℕ)) (old : List ℕ) where
  pub head_none : h.fields ≡ 0 → ReadTo (headed h n all rest) old (refused OutOfRange 1 (h.stop + 1) h.fields most_columns) old
  unfolding headed
  head_none e = read_none _ old _ _ (rw (or_left _ _ (eq_yes h.fields 0 e))) refl

  pub head_many : most_columns < h.fields → ReadTo (headed h n all rest) old (refused OutOfRange 1 (h.stop + 1) h.fields most_columns) old
  unfolding headed
  head_many e = read_none _ old _ _ (rw (or_right _ _ (lt_yes most_columns h.fields e))) refl

  module _ (some : h.fields ≡ 0 → ⊥) (few : h.fields ≤ most_columns) (a : Read) (new : List ℕ) where
    pub head_names : h.digits ≡ 0 → ReadTo (rows_from h.by h.fields n 0 0 2 rest) old a new → ReadTo (headed h n all rest) old a new
    unfolding headed
    head_names e r =
        read_same _ _ old a new (rw (or_none _ _ (eq_no h.fields 0 some) (lt_no most_columns h.fields few), eq_yes h.digits 0 e)) r

    pub head_amounts : (h.digits ≡ 0 → ⊥) → ReadTo (rows_from h.by h.fields n 0 0 1 all) old a new → ReadTo (headed h n all rest) old a new
    unfolding headed
    head_amounts e r =
        read_same _ _ old a new (rw (or_none _ _ (eq_no h.fields 0 some) (lt_no most_columns h.fields few), eq_no h.digits 0 e)) r

module _ (text : List ℕ) (t : Bool) (told : t ≡ is_cut text) (n : ℕ) (old : List ℕ) where
  pub table_cut : (r : Refusal Fault) → t ≡ true → r ≡ cut_text text → ReadTo (table_in text n) old (Err r) old
  unfolding table_in
  table_cut r cut e = read_none _ old _ _ (rw (← told, cut)) (ap (λ (x : Refusal Fault). Err x) e)

  module _ (whole : t ≡ false) where
    on : table_lines (lines_of text) n ≡ table_in text n
    unfolding table_in
    on = rw (← told, whole)

    pub table_none : length text ≡ 0 → ReadTo (table_in text n) old (refused OutOfRange 1 1 0 1) old
    unfolding table_lines
    table_none h =
        let low : length text ≤ 0 = omega arith in
        let none : text ≡ [] = drop_of_length-le text low in
        let s : outcome (refused OutOfRange 1 1 0 1) [] ≡ table_lines (lines_of text) n = rw none in
        read_none _ old _ _ (s ∙ on) refl

    table_lines_lem : (all : List (List ℕ)) (l : List ℕ) (ls : List (List ℕ)) → all ≡ l ∷ ls → table_lines all n ≡ headed (head_of (content_of l)) n all ls
    unfolding table_lines
    table_lines_lem all l ls e = rw e

    pub table_headed : (end : ℕ) (h : Head) (a : Read) (new : List ℕ) → (length text ≡ 0 → ⊥) → end ≡ 0 + until_newline (drop 0 text)
        → h ≡ head_of (content_of (take end text)) → ReadTo (headed h n (lines_of text) (lines_of (drop (end + 1) text))) old a new → ReadTo (table_in text n) old a new
    table_headed end h a new some is head r =
        let long : end - 0 ≡ end = omega arith in
        let lines : lines_of text ≡ take end text ∷ lines_of (drop (end + 1) text) = rw long at (lines_at text 0 end (omega arith) is) in
        let s : table_lines (lines_of text) n ≡ headed (head_of (content_of (take end text))) n (lines_of text) (lines_of (drop (end + 1) text)) = table_lines_lem _ _ _ lines in
        read_same _ _ old a new (ap (λ (g : Head). headed g n (lines_of text) (lines_of (drop (end + 1) text))) head ∙ sym s ∙ on) r
