-- Ceilings: method 3's with a last group of every kind, beside what they were with every group a full one; each method's; and refusals (Spec 3.5 to 3.7, 7.7).
use Rattle.std.specs.Prelude.{List, [], ◌∷◌, ◌++◌, ℕ, ◌*◌, ◌<◌, length, get_or, replicate}
use Rattle.digits.specs.Range.{list_to}
use Rattle.groups.specs.Groups.{group, group_count, input_count, inputs, table_steps, tables_count}
use Rattle.quote.specs.ByMethod.{ceiling_answer}
use Rattle.quote.specs.Tariff.{ceiling_with}
use Rattle.trials.specs.Rows.{Row, ◌gives◌, Holds, rows_hold, answered, definitions}

-- the tables' part of the ceiling for w inputs, and what it was
abbrev pub part : ℕ → ℕ → List ℕ
part w c = tables_count c w (group_count c w) ∷ group_count c w * table_steps c ∷ []

-- what is answered for a sheet
abbrev pub billed : ℕ → ℕ → List ℕ → ℕ → ℕ → List ℕ
billed p q amounts method k = answered (ceiling_answer p q amounts method k)

-- by method 3: the sizes of the groups, what is answered, and what the ceiling was
abbrev pub grouped : ℕ → ℕ → List ℕ → ℕ → List ℕ
grouped p q amounts c =
    let G = group_count c (input_count p q amounts) in
    list_to G (λ i. length (group c i (inputs p q amounts)))
    ++ billed p q amounts 3 c
    ++ ceiling_with p q amounts c (G * table_steps c) ∷ []

-- one payslip of one column
abbrev pub one : ℕ → ℕ → List ℕ
one x c = grouped 1 1 (x ∷ []) c

-- case J's sheet
abbrev pub sheet_j : List ℕ
sheet_j = 3 ∷ 0 ∷ 2 ∷ 1 ∷ 2 ∷ 0 ∷ 0 ∷ 0 ∷ 2 ∷ 3 ∷ 2 ∷ 1 ∷ []

unfoldable pub ceilings : List Row
unfolding definitions
ceilings =
    -- Req 04: w = 5, c = 4: from 22 to 11
    part 5 4 gives (11 ∷ 22 ∷ [])
    -- a last group of 1, of 2, of 3 and of 4 inputs with c = 4
    ∷ part 9 4 gives (22 ∷ 33 ∷ [])
    ∷ part 6 4 gives (12 ∷ 22 ∷ [])
    ∷ part 7 4 gives (15 ∷ 22 ∷ [])
    ∷ part 8 4 gives (22 ∷ 22 ∷ [])
    -- one group: shorter than c, and full; none
    ∷ part 3 8 gives (4 ∷ 247 ∷ [])
    ∷ part 8 8 gives (247 ∷ 247 ∷ [])
    ∷ part 0 8 gives (0 ∷ 0 ∷ [])
    -- c = 1: every group is of one input, and none has a table
    ∷ part 5 1 gives (0 ∷ 0 ∷ [])
    -- the same of sheets: 16 has five bits, 64 has seven, 128 has eight
    ∷ one 16 4 gives (4 ∷ 1 ∷ 0 ∷ 15 ∷ 16 ∷ 27 ∷ [])
    ∷ one 31 4 gives (4 ∷ 1 ∷ 0 ∷ 16 ∷ 16 ∷ 27 ∷ [])
    ∷ one 64 4 gives (4 ∷ 3 ∷ 0 ∷ 21 ∷ 22 ∷ 29 ∷ [])
    ∷ one 128 4 gives (4 ∷ 4 ∷ 0 ∷ 29 ∷ 30 ∷ 30 ∷ [])
    ∷ one 4 8 gives (3 ∷ 0 ∷ 6 ∷ 6 ∷ 249 ∷ [])
    ∷ one 128 8 gives (8 ∷ 0 ∷ 254 ∷ 254 ∷ 254 ∷ [])
    ∷ one 5 1 gives (1 ∷ 1 ∷ 1 ∷ 0 ∷ 3 ∷ 4 ∷ 4 ∷ [])
    -- groups over the border of two columns; a zero column; a payslip of zeros, which counts in q
    ∷ grouped 2 2 (9 ∷ 1 ∷ 0 ∷ 3 ∷ []) 4 gives (4 ∷ 2 ∷ 0 ∷ 17 ∷ 18 ∷ 28 ∷ [])
    ∷ grouped 3 2 (0 ∷ 3 ∷ 0 ∷ 0 ∷ 1 ∷ 4 ∷ []) 2 gives (2 ∷ 2 ∷ 1 ∷ 0 ∷ 6 ∷ 9 ∷ 10 ∷ [])
    ∷ grouped 1 3 (5 ∷ 0 ∷ 3 ∷ []) 2 gives (2 ∷ 1 ∷ 0 ∷ 4 ∷ 6 ∷ 7 ∷ [])
    -- 33 inputs: four full groups of 8, and one of 1
    ∷ grouped 2 1 (4294967295 ∷ 1 ∷ []) 8 gives (8 ∷ 8 ∷ 8 ∷ 8 ∷ 1 ∷ 0 ∷ 1023 ∷ 1023 ∷ 1270 ∷ [])
    -- a sheet of zeros has neither squarings nor groups
    ∷ grouped 2 2 (0 ∷ 0 ∷ 0 ∷ 0 ∷ []) 1 gives (0 ∷ 0 ∷ 0 ∷ 0 ∷ [])
    ∷ grouped 2 2 (0 ∷ 0 ∷ 0 ∷ 0 ∷ []) 8 gives (0 ∷ 0 ∷ 0 ∷ 0 ∷ [])
    -- cases A to C and J by each method: the count, then the ceiling
    ∷ billed 2 1 (3 ∷ 2 ∷ []) 1 1 gives (0 ∷ 3 ∷ 3 ∷ [])
    ∷ billed 2 1 (3 ∷ 2 ∷ []) 2 1 gives (0 ∷ 4 ∷ 5 ∷ [])
    ∷ billed 2 1 (3 ∷ 2 ∷ []) 3 2 gives (0 ∷ 5 ∷ 5 ∷ [])
    ∷ billed 3 4 sheet_j 1 1 gives (0 ∷ 11 ∷ 12 ∷ [])
    ∷ billed 3 4 sheet_j 2 1 gives (0 ∷ 9 ∷ 15 ∷ [])
    ∷ billed 3 4 sheet_j 3 4 gives (0 ∷ 17 ∷ 19 ∷ [])
    -- a chain that is too long to be compiled is answered all the same
    ∷ billed 16 64 (replicate 1024 254) 2 8 gives (0 ∷ 260032 ∷ 261056 ∷ [])
    -- 1: p and q at both ends and one past; 2 follows where they fit
    ∷ billed 0 1 [] 3 4 gives (1 ∷ 0 ∷ [])
    ∷ billed 17 1 [] 3 4 gives (1 ∷ 0 ∷ [])
    ∷ billed 1 0 [] 3 4 gives (1 ∷ 0 ∷ [])
    ∷ billed 1 65 [] 3 4 gives (1 ∷ 0 ∷ [])
    ∷ billed 16 64 [] 3 4 gives (2 ∷ 0 ∷ [])
    -- 2: an amount too few and one too many
    ∷ billed 2 1 (3 ∷ []) 3 4 gives (2 ∷ 0 ∷ [])
    ∷ billed 2 1 (3 ∷ 2 ∷ 1 ∷ []) 3 4 gives (2 ∷ 0 ∷ [])
    -- 3: no such method; a parameter past either end, or too large for the columns
    ∷ billed 2 1 (3 ∷ 2 ∷ []) 0 1 gives (3 ∷ 0 ∷ [])
    ∷ billed 2 1 (3 ∷ 2 ∷ []) 4 1 gives (3 ∷ 0 ∷ [])
    ∷ billed 2 1 (3 ∷ 2 ∷ []) 3 0 gives (3 ∷ 0 ∷ [])
    ∷ billed 2 1 (3 ∷ 2 ∷ []) 3 9 gives (3 ∷ 0 ∷ [])
    ∷ billed 2 1 (3 ∷ 2 ∷ []) 2 9 gives (3 ∷ 0 ∷ [])
    ∷ billed 3 1 (3 ∷ 2 ∷ 1 ∷ []) 1 4 gives (3 ∷ 0 ∷ [])
    -- the order: 1 before 2, 1 before 3, 2 before 3
    ∷ billed 17 1 (3 ∷ []) 3 4 gives (1 ∷ 0 ∷ [])
    ∷ billed 0 1 [] 0 0 gives (1 ∷ 0 ∷ [])
    ∷ billed 2 1 (3 ∷ []) 4 9 gives (2 ∷ 0 ∷ [])
    ∷ []

pub ceilings_hold : (d : Row) (k : ℕ) → k < length ceilings → Holds (get_or ceilings k d)
unfolding ceilings
ceilings_hold d k h = rows_hold ceilings d tt k h
