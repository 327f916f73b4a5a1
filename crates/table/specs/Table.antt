-- A table of amounts, one payslip a line, judged line by line from the top (Spec 12.2).
use Rattle.std.specs.Prelude.{cond, List, [], ◌∷◌, ◌++◌, ℕ, suc, ◌+◌, length, Ok, Err}
use Rattle.chain.specs.Tests.{◌<?◌, ◌=?◌, ◌≠?◌, ◌or◌}
use Rattle.chain.specs.Chain.{most_columns, most_payslips}
use Rattle.places.specs.declared.Fault.TheVariants.{OutOfRange, NoRoom, OtherFields}
use Rattle.text.specs.declared.Parting.{Parting}
use Rattle.places.specs.Places.{body_of, is_cut, cut_text, Read, values, refused}
use Rattle.text.specs.Text.{Parsed, flaw, Found, found, read_text, Outcome, outcome}
use Rattle.lines.specs.Lines.{lines_of, content_of, tally_of, fields_in, head_of}
use Rattle.lines.specs.declared.Head.{Head}

-- a line of amounts, where p are wanted, j payslips and c amounts are read, and there are n cells; places are those of the line
unfoldable pub row_found : Parting → ℕ → ℕ → ℕ → ℕ → List ℕ → Found
row_found by p n j c line =
    let fields = fields_in (tally_of line) by in
    cond (j =? most_payslips) (found (Err (flaw OutOfRange 1 (most_payslips + 1) most_payslips)) [])
    (cond (fields ≠? p) (found (Err (flaw OtherFields (length line + 1) fields p)) [])
    (cond (n <? c + p) (found (Err (flaw NoRoom 1 n (c + p))) [])
    (read_text by line p)))

-- amounts before those of the lines that follow
unfoldable pub joined : List ℕ → Outcome → Outcome
joined amounts o = outcome o.answer (amounts ++ o.numbers)

-- line k is read: the table goes on with its amounts, or is turned down at a place of the line
unfoldable pub after_row : ℕ → List ℕ → Parsed → (ℕ → Outcome) → Outcome
after_row k amounts (Ok x) on = joined amounts (on x)
after_row k amounts (Err e) on = outcome (refused e.fault k e.place e.found e.wanted) amounts

-- all lines are read, up to line k: a table has a payslip
unfoldable pub rows_end : ℕ → ℕ → ℕ → Read
rows_end p j k = cond (j =? 0) (refused OutOfRange k 1 0 1) (values p j)

-- lines of amounts from line k on
unfoldable pub rows_from : Parting → ℕ → ℕ → ℕ → ℕ → ℕ → List (List ℕ) → Outcome
rows_from by p n j c k [] = outcome (rows_end p j k) []
rows_from by p n j c k (l ∷ ls) =
    let row = row_found by p n j c (content_of l) in
    after_row k row.numbers row.answer (λ x. rows_from by p n (suc j) (c + x) (suc k) ls)

-- a table of some lines by its first line: out of range, or with names, which leave the rest as amounts, or without
unfoldable pub headed : Head → ℕ → List (List ℕ) → List (List ℕ) → Outcome
headed h n all rest =
    cond (h.fields =? 0 or most_columns <? h.fields) (outcome (refused OutOfRange 1 (h.stop + 1) h.fields most_columns) [])
    (cond (h.digits =? 0) (rows_from h.by h.fields n 0 0 2 rest)
    (rows_from h.by h.fields n 0 0 1 all))

unfoldable pub table_lines : List (List ℕ) → ℕ → Outcome
table_lines [] n = outcome (refused OutOfRange 1 1 0 1) []
table_lines (l ∷ ls) n = headed (head_of (content_of l)) n (l ∷ ls) ls

-- what a table comes to where there are n cells, after its mark and with it
unfoldable pub table_in : List ℕ → ℕ → Outcome
table_in text n = cond (is_cut text) (outcome (Err (cut_text text)) []) (table_lines (lines_of text) n)

abbrev pub table_of : List ℕ → ℕ → Outcome
table_of text n = table_in (body_of text) n
