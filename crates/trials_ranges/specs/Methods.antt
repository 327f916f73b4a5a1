-- Chains of the methods, step for step, on sheets that the worked examples do not reach, so that each sentence of Spec 3.1 to 3.7 matters on one:
-- count, ceiling, steps and outputs; case J by all methods; and Straus's largest tables.
use Rattle.std.specs.Prelude.{List, [], ◌∷◌, ◌++◌, ℕ, ◌<◌, length, get_or, drop}
use Rattle.chain.specs.Chain.{Chain, flat, pick, steps_rule}
use Rattle.run.specs.Run.{residues}
use Rattle.straus.specs.Straus.{straus_table}
use Rattle.quote.specs.ByMethod.{chain_of, count, ceiling}
use Rattle.compile.specs.Compile.{accepted_rule}
use Rattle.trials.specs.Rows.{Row, ◌gives◌, Holds, rows_hold, verdict, definitions}

-- the count, the ceiling, the steps in turn and the outputs
abbrev pub compiles : ℕ → ℕ → List ℕ → ℕ → ℕ → List ℕ
compiles p q amounts method k =
    let c = chain_of p q amounts method k in
    count p q amounts method k ∷ ceiling p q amounts method k ∷ flat c.steps ++ c.outputs

-- the figures modulo 10,000 for bases 3, 5 and 7
abbrev pub figures : Chain → List ℕ
figures c = pick (residues 10000 (3 ∷ 5 ∷ 7 ∷ []) c.steps) c.outputs

-- case J's sheet, and the same widened by two zero columns
abbrev pub sheet_j : List ℕ
sheet_j = 3 ∷ 0 ∷ 2 ∷ 1 ∷ 2 ∷ 0 ∷ 0 ∷ 0 ∷ 2 ∷ 3 ∷ 2 ∷ 1 ∷ []

abbrev pub wide_j : List ℕ
wide_j = 3 ∷ 0 ∷ 2 ∷ 0 ∷ 0 ∷ 1 ∷ 2 ∷ 0 ∷ 0 ∷ 0 ∷ 0 ∷ 0 ∷ 2 ∷ 0 ∷ 0 ∷ 3 ∷ 2 ∷ 1 ∷ 0 ∷ 0 ∷ []

unfoldable pub method_rows : List Row
unfolding definitions
method_rows =
    -- Yao: a zero column, given no power
    compiles 2 2 (0 ∷ 5 ∷ 0 ∷ 6 ∷ []) 2 2 gives (5 ∷ 8 ∷ 2 ∷ 2 ∷ 3 ∷ 3 ∷ 4 ∷ 2 ∷ 4 ∷ 2 ∷ 6 ∷ 2 ∷ 5 ∷ 7 ∷ [])
    ∷ compiles 3 1 (0 ∷ 9 ∷ 2 ∷ []) 2 1 gives (6 ∷ 9 ∷ 2 ∷ 2 ∷ 4 ∷ 4 ∷ 5 ∷ 5 ∷ 3 ∷ 3 ∷ 6 ∷ 2 ∷ 8 ∷ 7 ∷ 9 ∷ [])
    -- partition: (7,12) with c = 2, where group 2 holds 4 of column 1 and the base of column 2
    ∷ compiles 2 1 (7 ∷ 12 ∷ []) 3 2
    gives (11 ∷ 11 ∷ 1 ∷ 1 ∷ 3 ∷ 3 ∷ 2 ∷ 2 ∷ 5 ∷ 5 ∷ 6 ∷ 6 ∷ 3 ∷ 1 ∷ 4 ∷ 2 ∷ 6 ∷ 5 ∷ 8 ∷ 4 ∷ 11 ∷ 6 ∷ 12 ∷ 7 ∷ 13 ∷ [])
    -- a short last group: five inputs, c = 4
    ∷ compiles 1 2 (19 ∷ 8 ∷ []) 3 4
    gives (16 ∷ 17 ∷ 1 ∷ 1 ∷ 2 ∷ 2 ∷ 3 ∷ 3 ∷ 4 ∷ 4 ∷ 2 ∷ 1 ∷ 3 ∷ 1 ∷ 3 ∷ 2 ∷ 8 ∷ 1 ∷ 4 ∷ 1 ∷ 4 ∷ 2 ∷ 11 ∷ 1 ∷ 4 ∷ 3 ∷ 13 ∷ 1 ∷ 13 ∷ 2 ∷ 15
    ∷ 1 ∷ 6 ∷ 5 ∷ 17 ∷ 4 ∷ [])
    -- zero columns, giving no input
    ∷ compiles 3 2 (0 ∷ 3 ∷ 0 ∷ 0 ∷ 1 ∷ 4 ∷ []) 3 2 gives (6 ∷ 9 ∷ 2 ∷ 2 ∷ 3 ∷ 3 ∷ 5 ∷ 5 ∷ 4 ∷ 2 ∷ 5 ∷ 3 ∷ 6 ∷ 2 ∷ 7 ∷ 9 ∷ [])
    -- Spec 3.6: equal digits, the lowest power first: three of them, and two on both sides of another digit
    ∷ compiles 1 1 (7 ∷ []) 2 1 gives (4 ∷ 4 ∷ 1 ∷ 1 ∷ 2 ∷ 2 ∷ 2 ∷ 1 ∷ 4 ∷ 3 ∷ 5 ∷ [])
    ∷ compiles 1 1 (55 ∷ []) 2 2 gives (8 ∷ 8 ∷ 1 ∷ 1 ∷ 2 ∷ 2 ∷ 3 ∷ 3 ∷ 4 ∷ 4 ∷ 5 ∷ 1 ∷ 6 ∷ 6 ∷ 6 ∷ 3 ∷ 8 ∷ 7 ∷ 9 ∷ [])
    ∷ compiles 1 1 (27 ∷ []) 2 1 gives (7 ∷ 8 ∷ 1 ∷ 1 ∷ 2 ∷ 2 ∷ 3 ∷ 3 ∷ 4 ∷ 4 ∷ 2 ∷ 1 ∷ 6 ∷ 4 ∷ 7 ∷ 5 ∷ 8 ∷ [])
    -- Spec 3.1: the larger value number first, though the product in the making is the smaller: a column's power into the payslip's product, a part of a
    -- group that is a base, and a table's entry into a square
    ∷ compiles 2 1 (1 ∷ 3 ∷ []) 2 1 gives (3 ∷ 3 ∷ 2 ∷ 2 ∷ 3 ∷ 2 ∷ 4 ∷ 1 ∷ 5 ∷ [])
    ∷ compiles 2 1 (8 ∷ 1 ∷ []) 3 1 gives (4 ∷ 7 ∷ 1 ∷ 1 ∷ 3 ∷ 3 ∷ 4 ∷ 4 ∷ 5 ∷ 2 ∷ 6 ∷ [])
    ∷ compiles 2 1 (1 ∷ 8 ∷ []) 3 1 gives (4 ∷ 7 ∷ 2 ∷ 2 ∷ 3 ∷ 3 ∷ 4 ∷ 4 ∷ 5 ∷ 1 ∷ 6 ∷ [])
    ∷ compiles 2 1 (1 ∷ 2 ∷ []) 1 1 gives (3 ∷ 3 ∷ 2 ∷ 1 ∷ 2 ∷ 2 ∷ 4 ∷ 1 ∷ 5 ∷ [])
    -- Spec 3.2: a payslip of zeros between others makes no step and has output 0; its place in the ceilings of 3.5 to 3.7
    ∷ compiles 1 3 (5 ∷ 0 ∷ 3 ∷ []) 1 1 gives (5 ∷ 6 ∷ 1 ∷ 1 ∷ 2 ∷ 2 ∷ 3 ∷ 1 ∷ 1 ∷ 1 ∷ 5 ∷ 1 ∷ 4 ∷ 0 ∷ 6 ∷ [])
    ∷ compiles 1 3 (5 ∷ 0 ∷ 3 ∷ []) 2 1 gives (4 ∷ 6 ∷ 1 ∷ 1 ∷ 2 ∷ 2 ∷ 3 ∷ 1 ∷ 2 ∷ 1 ∷ 4 ∷ 0 ∷ 5 ∷ [])
    ∷ compiles 1 3 (5 ∷ 0 ∷ 3 ∷ []) 3 2 gives (4 ∷ 6 ∷ 1 ∷ 1 ∷ 2 ∷ 2 ∷ 2 ∷ 1 ∷ 3 ∷ 1 ∷ 5 ∷ 0 ∷ 4 ∷ [])
    ∷ compiles 2 3 (3 ∷ 1 ∷ 0 ∷ 0 ∷ 2 ∷ 5 ∷ []) 1 1 gives (7 ∷ 7 ∷ 2 ∷ 1 ∷ 1 ∷ 1 ∷ 4 ∷ 3 ∷ 2 ∷ 2 ∷ 6 ∷ 1 ∷ 7 ∷ 7 ∷ 8 ∷ 2 ∷ 5 ∷ 0 ∷ 9 ∷ [])
    ∷ compiles 2 3 (3 ∷ 1 ∷ 0 ∷ 0 ∷ 2 ∷ 5 ∷ []) 2 2 gives (8 ∷ 14 ∷ 2 ∷ 2 ∷ 3 ∷ 3 ∷ 1 ∷ 1 ∷ 5 ∷ 1 ∷ 6 ∷ 2 ∷ 1 ∷ 1 ∷ 4 ∷ 2 ∷ 9 ∷ 8 ∷ 7 ∷ 0 ∷ 10 ∷ [])
    ∷ compiles 2 3 (3 ∷ 1 ∷ 0 ∷ 0 ∷ 2 ∷ 5 ∷ []) 3 1 gives (7 ∷ 15 ∷ 1 ∷ 1 ∷ 2 ∷ 2 ∷ 4 ∷ 4 ∷ 3 ∷ 1 ∷ 6 ∷ 2 ∷ 3 ∷ 2 ∷ 8 ∷ 5 ∷ 7 ∷ 0 ∷ 9 ∷ [])
    -- Spec 3.2: a sheet of zeros; Straus makes its table all the same, and partition has w = 0 and ceiling 0
    ∷ compiles 2 2 (0 ∷ 0 ∷ 0 ∷ 0 ∷ []) 1 1 gives (1 ∷ 1 ∷ 2 ∷ 1 ∷ 0 ∷ 0 ∷ [])
    ∷ compiles 2 2 (0 ∷ 0 ∷ 0 ∷ 0 ∷ []) 2 1 gives (0 ∷ 0 ∷ 0 ∷ 0 ∷ [])
    ∷ compiles 2 2 (0 ∷ 0 ∷ 0 ∷ 0 ∷ []) 3 1 gives (0 ∷ 0 ∷ 0 ∷ 0 ∷ [])
    ∷ compiles 2 2 (0 ∷ 0 ∷ 0 ∷ 0 ∷ []) 3 8 gives (0 ∷ 0 ∷ 0 ∷ 0 ∷ [])
    -- Spec 3.5: J is that of the largest amount, in whichever column it stands
    ∷ compiles 2 1 (1 ∷ 5 ∷ []) 1 1 gives (4 ∷ 5 ∷ 2 ∷ 1 ∷ 2 ∷ 2 ∷ 4 ∷ 4 ∷ 5 ∷ 3 ∷ 6 ∷ [])
    ∷ compiles 2 1 (5 ∷ 1 ∷ []) 1 1 gives (4 ∷ 5 ∷ 2 ∷ 1 ∷ 1 ∷ 1 ∷ 4 ∷ 4 ∷ 5 ∷ 3 ∷ 6 ∷ [])
    ∷ compiles 3 1 (1 ∷ 2 ∷ 4 ∷ []) 1 1 gives (8 ∷ 8 ∷ 2 ∷ 1 ∷ 3 ∷ 1 ∷ 3 ∷ 2 ∷ 6 ∷ 1 ∷ 3 ∷ 3 ∷ 8 ∷ 2 ∷ 9 ∷ 9 ∷ 10 ∷ 1 ∷ 11 ∷ [])
    ∷ compiles 3 1 (5 ∷ 0 ∷ 6 ∷ []) 1 1 gives (8 ∷ 8 ∷ 2 ∷ 1 ∷ 3 ∷ 1 ∷ 3 ∷ 2 ∷ 6 ∷ 1 ∷ 5 ∷ 5 ∷ 8 ∷ 3 ∷ 9 ∷ 9 ∷ 10 ∷ 1 ∷ 11 ∷ [])
    -- Spec 3.5: digits that are all 0 in the middle and at the end: squarings without a product
    ∷ compiles 1 1 (9 ∷ []) 1 1 gives (4 ∷ 6 ∷ 1 ∷ 1 ∷ 2 ∷ 2 ∷ 3 ∷ 3 ∷ 4 ∷ 1 ∷ 5 ∷ [])
    ∷ compiles 1 2 (8 ∷ 100 ∷ []) 1 3
    gives (17 ∷ 18 ∷ 1 ∷ 1 ∷ 2 ∷ 1 ∷ 3 ∷ 1 ∷ 4 ∷ 1 ∷ 5 ∷ 1 ∷ 6 ∷ 1 ∷ 1 ∷ 1 ∷ 8 ∷ 8 ∷ 9 ∷ 9 ∷ 1 ∷ 1 ∷ 11 ∷ 11 ∷ 12 ∷ 12 ∷ 13 ∷ 4 ∷ 14 ∷ 14
    ∷ 15 ∷ 15 ∷ 16 ∷ 16 ∷ 17 ∷ 4 ∷ 10 ∷ 18 ∷ [])
    ∷ compiles 1 1 (20 ∷ []) 1 2 gives (7 ∷ 8 ∷ 1 ∷ 1 ∷ 2 ∷ 1 ∷ 1 ∷ 1 ∷ 4 ∷ 4 ∷ 5 ∷ 1 ∷ 6 ∷ 6 ∷ 7 ∷ 7 ∷ 8 ∷ [])
    -- Spec 3.4: a table of two columns with two bits each, in rising t, each entry from that with the lowest digit one less
    ∷ compiles 2 1 (6 ∷ 9 ∷ []) 1 2
    gives (16 ∷ 16 ∷ 1 ∷ 1 ∷ 3 ∷ 1 ∷ 2 ∷ 1 ∷ 5 ∷ 1 ∷ 6 ∷ 1 ∷ 2 ∷ 2 ∷ 8 ∷ 1 ∷ 9 ∷ 1 ∷ 10 ∷ 1 ∷ 8 ∷ 2 ∷ 12 ∷ 1 ∷ 13 ∷ 1 ∷ 14 ∷ 1 ∷ 9 ∷ 9 ∷ 16
    ∷ 16 ∷ 17 ∷ 6 ∷ 18 ∷ [])
    ∷ compiles 2 1 (17 ∷ 1 ∷ []) 1 2
    gives (18 ∷ 19 ∷ 1 ∷ 1 ∷ 3 ∷ 1 ∷ 2 ∷ 1 ∷ 5 ∷ 1 ∷ 6 ∷ 1 ∷ 2 ∷ 2 ∷ 8 ∷ 1 ∷ 9 ∷ 1 ∷ 10 ∷ 1 ∷ 8 ∷ 2 ∷ 12 ∷ 1 ∷ 13 ∷ 1 ∷ 14 ∷ 1 ∷ 1 ∷ 1 ∷ 16
    ∷ 16 ∷ 17 ∷ 17 ∷ 18 ∷ 18 ∷ 19 ∷ 5 ∷ 20 ∷ [])
    -- Spec 3.6: J is that of a column's largest amount, in whichever payslip; amounts with fewer digits than J, which count in the ceiling by J
    ∷ compiles 1 2 (1 ∷ 8 ∷ []) 2 1 gives (3 ∷ 9 ∷ 1 ∷ 1 ∷ 2 ∷ 2 ∷ 3 ∷ 3 ∷ 1 ∷ 4 ∷ [])
    ∷ compiles 2 2 (3 ∷ 0 ∷ 64 ∷ 9 ∷ []) 2 3
    gives (13 ∷ 33 ∷ 1 ∷ 1 ∷ 3 ∷ 3 ∷ 4 ∷ 4 ∷ 5 ∷ 5 ∷ 6 ∷ 6 ∷ 7 ∷ 7 ∷ 2 ∷ 2 ∷ 9 ∷ 9 ∷ 10 ∷ 10 ∷ 1 ∷ 1 ∷ 12 ∷ 1 ∷ 11 ∷ 2 ∷ 14 ∷ 8 ∷ 13 ∷ 15
    ∷ [])
    ∷ compiles 2 2 (2 ∷ 1 ∷ 1 ∷ 6 ∷ []) 2 2 gives (7 ∷ 14 ∷ 2 ∷ 2 ∷ 3 ∷ 3 ∷ 1 ∷ 1 ∷ 5 ∷ 2 ∷ 4 ∷ 2 ∷ 7 ∷ 2 ∷ 8 ∷ 1 ∷ 6 ∷ 9 ∷ [])
    -- Spec 3.6: digits from the largest down, with values of d that no digit has
    ∷ compiles 1 1 (5 ∷ []) 2 3 gives (4 ∷ 6 ∷ 1 ∷ 1 ∷ 2 ∷ 1 ∷ 3 ∷ 1 ∷ 4 ∷ 1 ∷ 5 ∷ [])
    ∷ compiles 1 1 (42 ∷ []) 2 3 gives (8 ∷ 10 ∷ 1 ∷ 1 ∷ 2 ∷ 2 ∷ 3 ∷ 3 ∷ 4 ∷ 4 ∷ 5 ∷ 4 ∷ 4 ∷ 1 ∷ 7 ∷ 6 ∷ 8 ∷ 7 ∷ 9 ∷ [])
    -- Spec 3.7: a group's table in rising t, of one column and over the border of two
    ∷ compiles 1 1 (7 ∷ []) 3 3 gives (6 ∷ 6 ∷ 1 ∷ 1 ∷ 2 ∷ 2 ∷ 2 ∷ 1 ∷ 3 ∷ 1 ∷ 3 ∷ 2 ∷ 6 ∷ 1 ∷ 7 ∷ [])
    ∷ compiles 2 1 (3 ∷ 3 ∷ []) 3 3 gives (7 ∷ 7 ∷ 1 ∷ 1 ∷ 2 ∷ 2 ∷ 3 ∷ 1 ∷ 2 ∷ 1 ∷ 3 ∷ 2 ∷ 7 ∷ 1 ∷ 8 ∷ 4 ∷ 9 ∷ [])
    -- Spec 3.7: groups are cut from the first input on, the last one shorter: five inputs in groups of two and of three
    ∷ compiles 1 1 (31 ∷ []) 3 2 gives (8 ∷ 8 ∷ 1 ∷ 1 ∷ 2 ∷ 2 ∷ 3 ∷ 3 ∷ 4 ∷ 4 ∷ 2 ∷ 1 ∷ 4 ∷ 3 ∷ 7 ∷ 6 ∷ 8 ∷ 5 ∷ 9 ∷ [])
    ∷ compiles 1 1 (31 ∷ []) 3 3 gives (10 ∷ 10 ∷ 1 ∷ 1 ∷ 2 ∷ 2 ∷ 3 ∷ 3 ∷ 4 ∷ 4 ∷ 2 ∷ 1 ∷ 3 ∷ 1 ∷ 3 ∷ 2 ∷ 8 ∷ 1 ∷ 5 ∷ 4 ∷ 10 ∷ 9 ∷ 11 ∷ [])
    -- Spec 3.7: payslips with one part that is not empty, in the first group, in the second, and with both in the order of the groups
    ∷ compiles 1 3 (12 ∷ 3 ∷ 15 ∷ []) 3 2 gives (6 ∷ 8 ∷ 1 ∷ 1 ∷ 2 ∷ 2 ∷ 3 ∷ 3 ∷ 2 ∷ 1 ∷ 4 ∷ 3 ∷ 6 ∷ 5 ∷ 6 ∷ 5 ∷ 7 ∷ [])
    ∷ compiles 2 2 (9 ∷ 1 ∷ 0 ∷ 3 ∷ []) 3 4
    gives (17 ∷ 18 ∷ 1 ∷ 1 ∷ 3 ∷ 3 ∷ 4 ∷ 4 ∷ 2 ∷ 2 ∷ 3 ∷ 1 ∷ 4 ∷ 1 ∷ 4 ∷ 3 ∷ 9 ∷ 1 ∷ 5 ∷ 1 ∷ 5 ∷ 3 ∷ 12 ∷ 1 ∷ 5 ∷ 4 ∷ 14 ∷ 1 ∷ 14 ∷ 3 ∷ 16
    ∷ 1 ∷ 6 ∷ 2 ∷ 11 ∷ 2 ∷ 19 ∷ 18 ∷ [])
    -- J: 1323, 75, 49, 4725 by all methods
    ∷ figures (chain_of 3 4 sheet_j 1 2) gives (1323 ∷ 75 ∷ 49 ∷ 4725 ∷ [])
    ∷ figures (chain_of 3 4 sheet_j 2 1) gives (1323 ∷ 75 ∷ 49 ∷ 4725 ∷ [])
    ∷ figures (chain_of 3 4 sheet_j 3 3) gives (1323 ∷ 75 ∷ 49 ∷ 4725 ∷ [])
    ∷ compiles 3 4 sheet_j 2 1 gives (9 ∷ 15 ∷ 1 ∷ 1 ∷ 2 ∷ 2 ∷ 3 ∷ 3 ∷ 4 ∷ 1 ∷ 7 ∷ 6 ∷ 5 ∷ 1 ∷ 4 ∷ 1 ∷ 10 ∷ 5 ∷ 11 ∷ 3 ∷ 8 ∷ 9 ∷ 6 ∷ 12 ∷ [])
    -- Straus with p = 5, k = 2 is accepted: the table alone, and each payslip one of its entries
    ∷ verdict (accepted_rule 5 4 wide_j 1 2) gives (0 ∷ [])
    ∷ (length (chain_of 5 4 wide_j 1 2).steps ∷ count 5 4 wide_j 1 2 ∷ ceiling 5 4 wide_j 1 2 ∷ (chain_of 5 4 wide_j 1 2).outputs)
    gives (1018 ∷ 1018 ∷ 1018 ∷ 37 ∷ 12 ∷ 34 ∷ 29 ∷ [])
    -- the whole table with p = 10, k = 1: its size, that it is legal, and its last step
    ∷ (length (straus_table 10 1) ∷ verdict (steps_rule 10 1 (straus_table 10 1)) ++ flat (drop 1012 (straus_table 10 1)))
    gives (1013 ∷ 0 ∷ 1022 ∷ 1 ∷ [])
    ∷ []

pub methods_hold : (d : Row) (k : ℕ) → k < length method_rows → Holds (get_or method_rows k d)
unfolding method_rows
methods_hold d k h = rows_hold method_rows d tt k h
