-- What a table comes to is kept line by line: the lines left give the answer, and the amounts after those stored.
use mathlib.Core.Path.{◌≡◌, refl, sym, ap, ◌∙◌}
use mathlib.Core.Bool.{Bool, true, false, cond}
use mathlib.Core.List.{List, [], ◌∷◌, ◌++◌}
use Prim.Native.Nat.{ℕ, suc, ◌+◌, ◌-◌, ◌≤◌, ◌<◌}
use native.Mathlib.Numerals.{add-one}
use native.Mathlib.Omega.{arith}
use lib.ListN.{length, get_or, take, drop, drop_of_length-le}
use lib.Seq.{drop-cons, drop-drop}
use Rattle.chain.specs.Tests.{◌<?◌, ◌=?◌, ◌≠?◌}
use Rattle.chain.specs.Chain.{most_payslips}
use Rattle.chain.specs.Written.{over, laid}
use Rattle.chain.proofs.Rules.{lt_yes, lt_no, eq_yes, eq_no, ne_yes, ne_no, not_lt}
use Rattle.chain.proofs.Written.{laid_nil, laid-length, laid_laid, over_laid}
use Rattle.std.specs.Prelude.{Ok, Err}
use Rattle.places.specs.declared.Fault.TheVariants.{OutOfRange, NoRoom, OtherFields}
use Rattle.text.specs.declared.Parting.{Parting}
use Rattle.places.specs.Places.{Read, values, refused}
use Rattle.text.specs.declared.Flaw.{Flaw}
use Rattle.text.specs.Text.{Parsed, flaw, Found, found, read_text, Outcome, outcome}
use Rattle.text.specs.Inner.{FoundTo, ReadTo}
use Rattle.text.proofs.Reading.{text_count}
use Rattle.lines.specs.Lines.{lines_of, content_of, tally_of, fields_in}
use Rattle.lines.specs.Inner.{until_newline}
use Rattle.lines.proofs.Lines.{line_first}
use Rattle.table.specs.Table.{row_found, joined, after_row, rows_end, rows_from}

-- nothing found is nothing stored
found_none : (f : Found) (a a' : Parsed) (from : ℕ) (old : List ℕ) → f ≡ found a [] → a' ≡ a → FoundTo f from old a' old
found_none f a a' from old e same =
    record { answered = same ∙ sym (ap (λ (g : Found). g.answer) e); stored = sym (ap (λ (g : Found). laid from g.numbers old) e ∙ laid_nil from old) }

found_same : (f g : Found) (from : ℕ) (old : List ℕ) (a : Parsed) (new : List ℕ) → g ≡ f → FoundTo g from old a new → FoundTo f from old a new
found_same f g from old a new e r = rw e at r

-- a line of amounts by its tests, as the code has them
module _ (by : Parting) (p n j c : ℕ) (line old : List ℕ) where
  pub row_many : j ≡ most_payslips → FoundTo (row_found by p n j c line) c old (Err (flaw OutOfRange 1 (most_payslips + 1) most_payslips)) old
  unfolding row_found
  row_many h = found_none _ _ _ c old (rw (eq_yes j most_payslips h)) refl

  module _ (few : j ≡ most_payslips → ⊥) (f : ℕ) (told : f ≡ fields_in (tally_of line) by) where
    pub row_fields : (f ≡ p → ⊥) → FoundTo (row_found by p n j c line) c old (Err (flaw OtherFields (length line + 1) f p)) old
    unfolding row_found
    row_fields h = found_none _ _ _ c old (rw (eq_no j most_payslips few, ← told, ne_yes f p h)) refl

    module _ (same : f ≡ p) where
      pub row_lacks : n < c + p → FoundTo (row_found by p n j c line) c old (Err (flaw NoRoom 1 n (c + p))) old
      unfolding row_found
      row_lacks h = found_none _ _ _ c old (rw (eq_no j most_payslips few, ← told, ne_no f p same, lt_yes n (c + p) h)) refl

      pub row_reads : (a : Parsed) (new : List ℕ) → c + p ≤ n → FoundTo (read_text by line p) c old a new → FoundTo (row_found by p n j c line) c old a new
      unfolding row_found
      row_reads a new h r = found_same _ _ c old a new (rw (eq_no j most_payslips few, ← told, ne_no f p same, lt_no n (c + p) h)) r

pub ruleset row_judged = (row_many, row_fields, row_lacks, row_reads)

-- a line, where the line is another one
pub row_of : (by : Parting) (p n j c : ℕ) (l l' old : List ℕ) (a : Parsed) (new : List ℕ) → l ≡ l'
    → FoundTo (row_found by p n j c l) c old a new → FoundTo (row_found by p n j c l') c old a new
row_of by p n j c l l' old a new e r = rw e at r

-- a line that is read has as many amounts as it answers, and there were cells for them
row_count : (by : Parting) (p n j c : ℕ) (line : List ℕ) (x : ℕ) → (row_found by p n j c line).answer ≡ Ok x
    → (x ≡ length (row_found by p n j c line).numbers) × (c + x ≤ n)
unfolding row_found
row_count by p n j c line x = by_tests (j =? most_payslips) (fields_in (tally_of line) by ≠? p) (n <? c + p) (λ e. not_lt n (c + p) e)
  where
    -- what is found of the line, by its three tests
    tested : Bool → Bool → Bool → Found
    tested s t u =
        cond s (found (Err (flaw OutOfRange 1 (most_payslips + 1) most_payslips)) [])
        (cond t (found (Err (flaw OtherFields (length line + 1) (fields_in (tally_of line) by) p)) [])
        (cond u (found (Err (flaw NoRoom 1 n (c + p))) []) (read_text by line p)))

    by_tests : (s t u : Bool) → (u ≡ false → c + p ≤ n)
        → (tested s t u).answer ≡ Ok x → (x ≡ length (tested s t u).numbers) × (c + x ≤ n)
    by_tests true t u h e = let z : ◌≡◌ {A = ℕ} 0 1 = cc in absurd (omega arith)
    by_tests false true u h e = let z : ◌≡◌ {A = ℕ} 0 1 = cc in absurd (omega arith)
    by_tests false false true h e = let z : ◌≡◌ {A = ℕ} 0 1 = cc in absurd (omega arith)
    by_tests false false false h e = let z = text_count by line p x e in let room = h refl in (z.0, omega (arith, z.1))

-- the end, by the payslips read
module _ (p j k : ℕ) where
  pub end_none : j ≡ 0 → refused OutOfRange k 1 0 1 ≡ rows_end p j k
  unfolding rows_end
  end_none h = rw (eq_yes j 0 h)

  pub end_some : (j ≡ 0 → ⊥) → values p j ≡ rows_end p j k
  unfolding rows_end
  end_some h = rw (eq_no j 0 h)

-- the line at a place, and those after it
pub lines_at : (text : List ℕ) (at end : ℕ) → at < length text → end ≡ at + until_newline (drop at text)
    → lines_of (drop at text) ≡ take (end - at) (drop at text) ∷ lines_of (drop (end + 1) text)
lines_at text at end h e =
    let first : drop at text ≡ get_or text at 0 ∷ drop (suc at) text = drop-cons text at 0 h in
    let u : ℕ = until_newline (drop at text) in
    let long : end - at ≡ u = omega arith in
    let next : end + 1 ≡ at + suc u = omega arith in
    let all : lines_of (drop at text) ≡ take u (drop at text) ∷ lines_of (drop (suc u) (drop at text)) = rw first (line_first (get_or text at 0) (drop (suc at) text)) in
    rw (long, next) (all ∙ ap (λ (l : List ℕ). take u (drop at text) ∷ lines_of l) (drop-drop (suc u) at text))

-- how amounts are parted, the columns, the text and the cells as they were; `whole` is what all lines come to
module _ (by : Parting) (p : ℕ) (text old : List ℕ) (whole : Outcome) where
  -- what is left after j payslips and c amounts, from line k and a place on
  abbrev pub rows_left : ℕ → ℕ → ℕ → ℕ → Outcome
  rows_left j c k at = rows_from by p (length old) j c k (lines_of (drop at text))

  pub record Rows (j c k at : ℕ) (cells : List ℕ) : Type 0 where
    pub long : length cells ≡ length old
    pub fits : c ≤ length old
    pub answer : whole.answer ≡ (rows_left j c k at).answer
    pub numbers : over whole.numbers old ≡ laid c (rows_left j c k at).numbers cells

  pub rows_start : (k at : ℕ) → whole ≡ rows_left 0 0 k at → Rows 0 0 k at old
  rows_start k at e =
      record {
        long = refl;
        fits = omega arith;
        answer = ap (λ (o : Outcome). o.answer) e;
        numbers = ap (λ (o : Outcome). over o.numbers old) e ∙ over_laid (rows_left 0 0 k at).numbers old;
      }

  module _ (j c k at : ℕ) (cells : List ℕ) (r : Rows j c k at cells) where
    -- an outcome without further amounts
    ended : (a a' : Read) → rows_left j c k at ≡ outcome a [] → a' ≡ a → ReadTo whole old a' cells
    ended a a' e same =
        record {
          answered = same ∙ sym (r.answer ∙ ap (λ (o : Outcome). o.answer) e);
          stored = sym (r.numbers ∙ ap (λ (o : Outcome). laid c o.numbers cells) e ∙ laid_nil c cells);
        }

    pub rows_end_lem : (a : Read) → length text ≤ at → a ≡ rows_end p j k → ReadTo whole old a cells
    unfolding rows_from
    rows_end_lem a h e = ended (rows_end p j k) a (rw (drop_of_length-le text h)) e

    -- the next line as the code has it
    module _ (end : ℕ) (a : Parsed) (cells' : List ℕ) (h : at < length text) (is : end ≡ at + until_newline (drop at text))
        (read : FoundTo (row_found by p (length cells) j c (content_of (take (end - at) (drop at text)))) c cells a cells') where
      row : Found
      row = row_found by p (length old) j c (content_of (take (end - at) (drop at text)))

      read' : FoundTo row c cells a cells'
      unfolding row
      read' = rw r.long at read

      next : rows_left j c k at ≡ after_row k row.numbers row.answer (λ x. rows_left (j + 1) (c + x) (k + 1) (end + 1))
      unfolding rows_from row
      next = rw (lines_at text at end h is, rows_from, add-one j, add-one k)

      -- what is stored so far, and what is left
      stores : (rest : List ℕ) → laid c (row.numbers ++ rest) cells ≡ laid (c + length row.numbers) rest cells'
      stores rest =
          let low : c ≤ length cells = omega (arith, r.long, r.fits) in
          sym (ap (laid (c + length row.numbers) rest) read'.stored ∙ laid_laid c (c + length row.numbers) row.numbers rest cells refl low)

      module _ (x : ℕ) (told : a ≡ Ok x) where
        count : (x ≡ length row.numbers) × (c + x ≤ length old)
        unfolding row
        count = row_count by p (length old) j c (content_of (take (end - at) (drop at text))) x (sym read'.answered ∙ told)

        pub rows_room : c + x ≤ length old
        rows_room = count.1

        pub rows_on : Rows (j + 1) (c + x) (k + 1) (end + 1) cells'
        unfolding after_row joined
        rows_on =
            let was : row.answer ≡ Ok x = sym read'.answered ∙ told in
            let s : rows_left j c k at ≡ joined row.numbers (rows_left (j + 1) (c + x) (k + 1) (end + 1)) = next ∙ rw (was, after_row) in
            let low : c + length row.numbers ≤ length cells = omega (arith, count.0, count.1, r.long) in
            record {
              long = ap length read'.stored ∙ laid-length c row.numbers cells low ∙ r.long;
              fits = count.1;
              answer = r.answer ∙ ap (λ (o : Outcome). o.answer) s;
              numbers =
                  r.numbers ∙ ap (λ (o : Outcome). laid c o.numbers cells) s
                  ∙ stores (rows_left (j + 1) (c + x) (k + 1) (end + 1)).numbers
                  ∙ ap (λ (n : ℕ). laid (c + n) (rows_left (j + 1) (c + x) (k + 1) (end + 1)).numbers cells') (sym count.0);
            }

      pub rows_stop : (e : Flaw) → a ≡ Err e → ReadTo whole old (refused e.fault k e.place e.found e.wanted) cells'
      unfolding after_row
      rows_stop e told =
          let was : row.answer ≡ Err e = sym read'.answered ∙ told in
          let s : rows_left j c k at ≡ outcome (refused e.fault k e.place e.found e.wanted) row.numbers = next ∙ rw (was, after_row) in
          record {
            answered = sym (r.answer ∙ ap (λ (o : Outcome). o.answer) s);
            stored = sym (r.numbers ∙ ap (λ (o : Outcome). laid c o.numbers cells) s ∙ sym read'.stored);
          }
