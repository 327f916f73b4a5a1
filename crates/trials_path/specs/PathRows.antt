-- The whole path for case A, with each of its calls refused in turn and with none: the answer and all eight slices (Spec 7.3, 10.5).
use Rattle.std.specs.Prelude.{List, [], ◌∷◌, ◌++◌, ℕ, ◌<◌, length, get_or, replicate}
use Rattle.path.specs.Path.{Lent, lent, path_answer, path_leaves}
use Rattle.trials.specs.Rows.{Row, ◌gives◌, Holds, rows_hold, answered, definitions}
use Rattle.trials.specs.Trials.{nines, sheet_a, steps_a, file_a}

-- slices of so many cells: steps (two cells each), outputs, bytes, steps and outputs read, scratch, values, figures
abbrev pub cells : ℕ → ℕ → ℕ → ℕ → ℕ → ℕ → ℕ → ℕ → Lent
cells a b c d e f g h = lent (nines a) (nines b) (nines c) (nines d) (nines e) (nines f) (nines g) (nines h)

-- the slices one after the other
abbrev pub laid_out : Lent → List ℕ
laid_out l =
    l.steps ++ l.outputs ++ l.bytes ++ l.steps_read ++ l.outputs_read ++ l.scratch ++ l.values ++ l.figures

-- case A's sheet by a method with a parameter, lent such slices, with a modulus and bases
abbrev pub walked : ℕ → ℕ → Lent → ℕ → List ℕ → List ℕ
walked method k l m bases =
    answered (path_answer 2 1 sheet_a method k l m bases) ++ laid_out (path_leaves 2 1 sheet_a method k l m bases)

unfoldable pub path_rows : List Row
unfolding definitions path_answer path_leaves
path_rows =
    -- no call refused, with one cell more than is needed in each slice; then with just as many
    walked 1 1 (cells 7 2 8 7 2 7 7 2) 1000 (3 ∷ 5 ∷ [])
    gives (0 ∷ 3 ∷ 3 ∷ 3 ∷ steps_a ++ 9 ∷ 5 ∷ 9 ∷ file_a ++ 9 ∷ steps_a ++ 9 ∷ 5 ∷ 9 ∷ replicate 6 0 ++ 9 ∷ 1 ∷ 3 ∷ 5 ∷ 15 ∷ 225 ∷ 675 ∷ 9 ∷ 675 ∷ 9 ∷ [])
    ∷ walked 1 1 (cells 6 1 7 6 1 6 6 1) 1000 (3 ∷ 5 ∷ [])
    gives (0 ∷ 3 ∷ 3 ∷ 3 ∷ steps_a ++ 5 ∷ file_a ++ steps_a ++ 5 ∷ replicate 6 0 ++ 1 ∷ 3 ∷ 5 ∷ 15 ∷ 225 ∷ 675 ∷ 675 ∷ [])
    -- compile refused 3, and 5 for want of room for its steps and for its output: no slice changes
    ∷ walked 4 1 (cells 7 2 8 7 2 7 7 2) 1000 (3 ∷ 5 ∷ []) gives (3 ∷ 0 ∷ nines 42)
    ∷ walked 1 1 (cells 5 1 7 6 1 6 6 1) 1000 (3 ∷ 5 ∷ []) gives (5 ∷ 0 ∷ nines 33)
    ∷ walked 1 1 (cells 6 0 7 6 1 6 6 1) 1000 (3 ∷ 5 ∷ []) gives (5 ∷ 0 ∷ nines 33)
    -- write refused 5: the chain stands, no more
    ∷ walked 1 1 (cells 6 1 6 6 1 6 6 1) 1000 (3 ∷ 5 ∷ []) gives (5 ∷ 0 ∷ steps_a ++ 5 ∷ nines 26)
    -- read refused 5, by its steps and by its output: the file stands too
    ∷ walked 1 1 (cells 6 1 7 5 1 6 6 1) 1000 (3 ∷ 5 ∷ []) gives (5 ∷ 0 ∷ steps_a ++ 5 ∷ file_a ++ nines 19)
    ∷ walked 1 1 (cells 6 1 7 6 0 6 6 1) 1000 (3 ∷ 5 ∷ []) gives (5 ∷ 0 ∷ steps_a ++ 5 ∷ file_a ++ nines 19)
    -- check refused 5: what was read stands too, the scratch is as it was
    ∷ walked 1 1 (cells 6 1 7 6 1 5 6 1) 1000 (3 ∷ 5 ∷ []) gives (5 ∷ 0 ∷ steps_a ++ 5 ∷ file_a ++ steps_a ++ 5 ∷ nines 12)
    -- run refused 15, 16, and 5 by its values and by its figure: the scratch is 0, values and figures are as they were
    ∷ walked 1 1 (cells 6 1 7 6 1 7 6 1) 0 (3 ∷ 5 ∷ []) gives (15 ∷ 0 ∷ steps_a ++ 5 ∷ file_a ++ steps_a ++ 5 ∷ replicate 6 0 ++ nines 8)
    ∷ walked 1 1 (cells 6 1 7 6 1 7 6 1) 5 (3 ∷ 5 ∷ []) gives (16 ∷ 0 ∷ steps_a ++ 5 ∷ file_a ++ steps_a ++ 5 ∷ replicate 6 0 ++ nines 8)
    ∷ walked 1 1 (cells 6 1 7 6 1 6 5 1) 1000 (3 ∷ 5 ∷ []) gives (5 ∷ 0 ∷ steps_a ++ 5 ∷ file_a ++ steps_a ++ 5 ∷ replicate 6 0 ++ nines 6)
    ∷ walked 1 1 (cells 6 1 7 6 1 6 6 0) 1000 (3 ∷ 5 ∷ []) gives (5 ∷ 0 ∷ steps_a ++ 5 ∷ file_a ++ steps_a ++ 5 ∷ replicate 6 0 ++ nines 6)
    -- two calls refused: the earlier one, here compile 3 before run 15, write 5 before run 15, and check 5 before run 16
    ∷ walked 1 6 (cells 6 1 7 6 1 6 6 1) 0 (3 ∷ 5 ∷ []) gives (3 ∷ 0 ∷ nines 34)
    ∷ walked 1 1 (cells 6 1 6 6 1 6 6 1) 0 (3 ∷ 5 ∷ []) gives (5 ∷ 0 ∷ steps_a ++ 5 ∷ nines 26)
    ∷ walked 1 1 (cells 6 1 7 6 1 5 6 1) 5 (3 ∷ 5 ∷ []) gives (5 ∷ 0 ∷ steps_a ++ 5 ∷ file_a ++ steps_a ++ 5 ∷ nines 12)
    ∷ []

pub path_hold : (d : Row) (k : ℕ) → k < length path_rows → Holds (get_or path_rows k d)
unfolding path_rows
path_hold d k h = rows_hold path_rows d tt k h
