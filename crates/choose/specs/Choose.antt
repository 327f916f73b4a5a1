-- The chooser (Spec 8).
use Rattle.std.specs.Prelude.{◌≡◌, cond, List, [], ℕ}
use Rattle.std.specs.Borrow.{Bor}
use Rattle.chain.specs.Tests.{◌<?◌, ◌≤?◌, ◌≠?◌, ◌or◌}
use Rattle.chain.specs.Verdict.{Verdict, fine, refused, ◌then◌, refuse_if}
use Rattle.chain.specs.Chain.{most_columns, most_payslips}
use Rattle.answers.specs.Answers.{Choice, first, second, neither}
use Rattle.sheet.specs.Sheet.{sheet_rule}
use Rattle.verify.specs.Verify.{scratch_size, verify_rule}
use Rattle.layout.specs.Layout.{edition1}
use Rattle.layout.specs.File.{columns_of, payslips_of, length_of, steps_of, outputs_of, read_rule}

-- Spec 8: as many numbers as the check of any file's chain needs
abbrev pub most_scratch : ℕ
most_scratch = scratch_size most_columns edition1.limit

-- Spec 8: what is found against a file: reading it, then another p or q than the sheet has (14), then the check
unfoldable pub file_rule : ℕ → ℕ → List ℕ → List ℕ → Verdict
file_rule p q amounts file =
    read_rule edition1 file edition1.limit most_payslips
    then refuse_if (columns_of file ≠? p or payslips_of file ≠? q) 14 0
    then verify_rule p (steps_of edition1 file) (outputs_of edition1 file) amounts most_scratch

-- Spec 8: of two good files the one with fewer steps, the first if they are equal; of one, that one; of none, the first file's refusal.
-- The verdicts on the two files, and their numbers of steps.
unfoldable pub better : Verdict → Verdict → ℕ → ℕ → Choice
better fine fine m n = cond (m ≤? n) first second
better fine (refused k s) m n = first
better (refused k s) fine m n = second
better (refused k s) (refused j t) m n = neither k s

-- the choice, unless something was found before either file
unfoldable pub unless : Verdict → Choice → Choice
unless fine c = c
unless (refused k s) c = neither k s

-- Spec 8: before the files 1, 2, then 5; the last three arguments are how many pairs, outputs and numbers are lent
unfoldable pub choose_rule : ℕ → ℕ → List ℕ → ℕ → ℕ → ℕ → Verdict
choose_rule p q amounts pairs_lent outputs_lent numbers_lent =
    sheet_rule p q amounts
    then refuse_if (pairs_lent <? edition1.limit or outputs_lent <? most_payslips or numbers_lent <? most_scratch) 5 0

unfoldable pub choice : ℕ → ℕ → List ℕ → List ℕ → List ℕ → ℕ → ℕ → ℕ → Choice
choice p q amounts a b pairs_lent outputs_lent numbers_lent =
    unless (choose_rule p q amounts pairs_lent outputs_lent numbers_lent)
    (better (file_rule p q amounts a) (file_rule p q amounts b) (length_of edition1 a) (length_of edition1 b))

-- Spec 8: what is handed back of files a and b: that very slice, with number and place 0; or an empty part and the refusal.
abbrev pub Handed : Choice → Bor (List ℕ) → Bor (List ℕ) → Bor (List ℕ) → ℕ → ℕ → Type 0
Handed first a b r number place = (r ≡ a) × ((number ≡ 0) × (place ≡ 0))
Handed second a b r number place = (r ≡ b) × ((number ≡ 0) × (place ≡ 0))
Handed (neither k s) a b r number place = (r.now ≡ []) × ((number ≡ k) × (place ≡ s))
