-- The chooser between files of every kind for case A's sheet, p = 2 and payslip (3,2) (Spec 8).
use Rattle.std.specs.Prelude.{List, [], ◌∷◌, ℕ, ◌<◌, length, get_or}
use Rattle.chain.specs.Chain.{pairs}
use Rattle.layout.specs.Layout.{edition1}
use Rattle.layout.specs.File.{file_of}
use Rattle.trials.specs.Rows.{Row, ◌gives◌, Holds, rows_hold, definitions}
use Rattle.trials.specs.Trials.{sheet_a, file_a}
use Rattle.trials.specs.Refusals.{choosing}

-- cases B and C, four and five steps
abbrev pub file_b : List ℕ
file_b = 0x11 ∷ 0x00 ∷ 0x00 ∷ 0x42 ∷ 0x52 ∷ 0x66 ∷ 0xcc ∷ []

abbrev pub file_c : List ℕ
file_c = 0x11 ∷ 0x00 ∷ 0x00 ∷ 0x52 ∷ 0x52 ∷ 0x66 ∷ 0x2b ∷ 0x38 ∷ []

-- another chain of three steps: (2,1) (3,1) (4,3), output 5
abbrev pub file_d : List ℕ
file_d = 0x11 ∷ 0x00 ∷ 0x00 ∷ 0x34 ∷ 0x59 ∷ 0x8e ∷ 0x80 ∷ []

-- case A with output 4; no step and output 0: both read, and neither passes
abbrev pub wrong_a : List ℕ
wrong_a = 0x11 ∷ 0x00 ∷ 0x00 ∷ 0x34 ∷ 0x5b ∷ 0x86 ∷ 0x00 ∷ []

abbrev pub empty_a : List ℕ
empty_a = 0x11 ∷ 0x00 ∷ 0x00 ∷ 0x00 ∷ []

unfoldable pub choices : List Row
unfolding definitions
choices =
    -- the files are those of their chains (Spec 5)
    file_of edition1 2 (pairs (1 ∷ 1 ∷ 2 ∷ 2 ∷ 3 ∷ 1 ∷ 5 ∷ 4 ∷ [])) (6 ∷ []) gives file_b
    ∷ file_of edition1 2 (pairs (1 ∷ 1 ∷ 2 ∷ 2 ∷ 3 ∷ 1 ∷ 4 ∷ 2 ∷ 5 ∷ 4 ∷ [])) (7 ∷ []) gives file_c
    ∷ file_of edition1 2 (pairs (2 ∷ 1 ∷ 3 ∷ 1 ∷ 4 ∷ 3 ∷ [])) (5 ∷ []) gives file_d
    ∷ file_of edition1 2 [] (0 ∷ []) gives empty_a
    -- two good files: the one with fewer steps
    ∷ choosing 2 1 sheet_a file_a file_b gives (1 ∷ [])
    ∷ choosing 2 1 sheet_a file_b file_a gives (2 ∷ [])
    ∷ choosing 2 1 sheet_a file_b file_c gives (1 ∷ [])
    ∷ choosing 2 1 sheet_a file_c file_b gives (2 ∷ [])
    -- the first if they are equal
    ∷ choosing 2 1 sheet_a file_a file_d gives (1 ∷ [])
    ∷ choosing 2 1 sheet_a file_d file_a gives (1 ∷ [])
    -- one good file: that one, though the other has fewer steps
    ∷ choosing 2 1 sheet_a empty_a file_c gives (2 ∷ [])
    ∷ choosing 2 1 sheet_a file_c empty_a gives (1 ∷ [])
    ∷ choosing 2 1 sheet_a [] file_c gives (2 ∷ [])
    ∷ choosing 2 1 sheet_a file_c [] gives (1 ∷ [])
    -- none: the first file's refusal
    ∷ choosing 2 1 sheet_a wrong_a [] gives (0 ∷ 14 ∷ 1 ∷ [])
    ∷ choosing 2 1 sheet_a [] wrong_a gives (0 ∷ 6 ∷ 0 ∷ [])
    ∷ choosing 2 1 sheet_a (0x20 ∷ 0x00 ∷ 0x00 ∷ 0x00 ∷ []) empty_a gives (0 ∷ 7 ∷ 0 ∷ [])
    -- another p, another q, and both with as many amounts
    ∷ choosing 1 1 (3 ∷ []) file_a file_a gives (0 ∷ 14 ∷ 0 ∷ [])
    ∷ choosing 2 2 (3 ∷ 2 ∷ 3 ∷ 2 ∷ []) file_a file_a gives (0 ∷ 14 ∷ 0 ∷ [])
    ∷ choosing 1 2 (3 ∷ 2 ∷ []) file_a file_a gives (0 ∷ 14 ∷ 0 ∷ [])
    -- one of them of another p or q
    ∷ choosing 2 1 (0 ∷ 0 ∷ []) (0x10 ∷ 0x00 ∷ 0x00 ∷ 0x00 ∷ []) empty_a gives (2 ∷ [])
    ∷ choosing 2 1 (0 ∷ 0 ∷ []) empty_a (0x11 ∷ 0x04 ∷ 0x00 ∷ 0x00 ∷ []) gives (1 ∷ [])
    ∷ choosing 2 1 (0 ∷ 0 ∷ []) (0x11 ∷ 0x04 ∷ 0x00 ∷ 0x00 ∷ []) empty_a gives (2 ∷ [])
    ∷ []

pub choices_hold : (d : Row) (k : ℕ) → k < length choices → Holds (get_or choices k d)
unfolding choices
choices_hold d k h = rows_hold choices d tt k h
