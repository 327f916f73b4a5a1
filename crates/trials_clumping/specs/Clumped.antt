-- Chains of method 4, step for step: one, two and three levels, each sentence of the request on a sheet where it matters (Req 06).
use Rattle.std.specs.Prelude.{List, [], ◌∷◌, ◌++◌, ℕ, ◌<◌, length, get_or}
use Rattle.chain.specs.Chain.{flat}
use Rattle.clumps.specs.Clumps.{Level, level, clumps_of, overflow_of}
use Rattle.clumps.specs.Levels.{output_cut, output_rest, next_outputs, factors, input_cut, next_inputs}
use Rattle.clumping.specs.Clumping.{parts_of, used, used_values, is_nonzero, wanted, clumping, clumping_count}
use Rattle.trials.specs.Rows.{Row, ◌gives◌, Holds, rows_hold, definitions}

-- the count, the steps in turn and the outputs
abbrev pub clumped : ℕ → ℕ → List ℕ → ℕ → List Level → List ℕ
clumped p q amounts c levels =
    let chain = clumping p q amounts c levels in
    clumping_count p q amounts c levels ∷ flat chain.steps ++ chain.outputs

-- lists, each behind its length
abbrev pub measured : List (List ℕ) → List ℕ
measured [] = []
measured (l ∷ r) = length l ∷ l ++ measured r

-- all that this table computes with
unfoldable pub clump_definitions : Unit {0}
unfolding clumps_of overflow_of output_cut output_rest next_outputs factors input_cut next_inputs parts_of used used_values is_nonzero wanted clumping clumping_count
clump_definitions = tt

unfoldable pub clump_rows : List Row
unfolding definitions clump_definitions
clump_rows =
    -- two equal payslips: one clump, made once; an output of one member takes no step
    clumped 2 2 (3 ∷ 2 ∷ 3 ∷ 2 ∷ []) 2 (level 2 2 ∷ []) gives (5 ∷ 1 ∷ 1 ∷ 2 ∷ 2 ∷ 3 ∷ 1 ∷ 4 ∷ 2 ∷ 5 ∷ 4 ∷ 7 ∷ 7 ∷ [])
    -- clumps and overflow in parts of 3, the last of 2; payslip 3 is zero
    ∷ clumped 3 6 (1 ∷ 1 ∷ 1 ∷ 1 ∷ 1 ∷ 0 ∷ 0 ∷ 0 ∷ 0 ∷ 0 ∷ 1 ∷ 1 ∷ 1 ∷ 1 ∷ 1 ∷ 1 ∷ 0 ∷ 1 ∷ []) 1 (level 3 2 ∷ []) gives (5 ∷ 2 ∷ 1 ∷ 3 ∷ 1 ∷ 4 ∷ 3 ∷ 3 ∷ 2 ∷ 5 ∷ 2 ∷ 6 ∷ 4 ∷ 0 ∷ 7 ∷ 8 ∷ 5 ∷ [])
    -- three at a time in parts of 4: all but one overflow
    ∷ clumped 3 6 (1 ∷ 1 ∷ 1 ∷ 1 ∷ 1 ∷ 0 ∷ 0 ∷ 0 ∷ 0 ∷ 0 ∷ 1 ∷ 1 ∷ 1 ∷ 1 ∷ 1 ∷ 1 ∷ 0 ∷ 1 ∷ []) 1 (level 4 3 ∷ []) gives (7 ∷ 2 ∷ 1 ∷ 4 ∷ 3 ∷ 2 ∷ 1 ∷ 3 ∷ 2 ∷ 3 ∷ 1 ∷ 8 ∷ 2 ∷ 3 ∷ 1 ∷ 5 ∷ 6 ∷ 0 ∷ 7 ∷ 9 ∷ 10 ∷ [])
    -- one level, two and three on one sheet
    ∷ clumped 4 6 (0 ∷ 1 ∷ 0 ∷ 0 ∷ 1 ∷ 0 ∷ 1 ∷ 1 ∷ 0 ∷ 1 ∷ 0 ∷ 0 ∷ 1 ∷ 0 ∷ 1 ∷ 1 ∷ 1 ∷ 0 ∷ 1 ∷ 1 ∷ 1 ∷ 0 ∷ 1 ∷ 1 ∷ []) 1 (level 4 2 ∷ []) gives (4 ∷ 3 ∷ 1 ∷ 5 ∷ 4 ∷ 3 ∷ 1 ∷ 7 ∷ 4 ∷ 2 ∷ 6 ∷ 2 ∷ 6 ∷ 8 ∷ 8 ∷ [])
    ∷ clumped 4 6 (0 ∷ 1 ∷ 0 ∷ 0 ∷ 1 ∷ 0 ∷ 1 ∷ 1 ∷ 0 ∷ 1 ∷ 0 ∷ 0 ∷ 1 ∷ 0 ∷ 1 ∷ 1 ∷ 1 ∷ 0 ∷ 1 ∷ 1 ∷ 1 ∷ 0 ∷ 1 ∷ 1 ∷ []) 1 (level 4 2 ∷ level 4 2 ∷ []) gives (3 ∷ 3 ∷ 1 ∷ 5 ∷ 4 ∷ 5 ∷ 4 ∷ 2 ∷ 6 ∷ 2 ∷ 6 ∷ 7 ∷ 7 ∷ [])
    ∷ clumped 4 6 (0 ∷ 1 ∷ 0 ∷ 0 ∷ 1 ∷ 0 ∷ 1 ∷ 1 ∷ 0 ∷ 1 ∷ 0 ∷ 0 ∷ 1 ∷ 0 ∷ 1 ∷ 1 ∷ 1 ∷ 0 ∷ 1 ∷ 1 ∷ 1 ∷ 0 ∷ 1 ∷ 1 ∷ []) 1 (level 4 2 ∷ level 4 2 ∷ level 4 2 ∷ []) gives (2 ∷ 3 ∷ 1 ∷ 5 ∷ 4 ∷ 2 ∷ 6 ∷ 2 ∷ 6 ∷ 6 ∷ 6 ∷ [])
    -- three levels with overflow at each
    ∷ clumped 3 7 (1 ∷ 1 ∷ 1 ∷ 0 ∷ 0 ∷ 0 ∷ 0 ∷ 2 ∷ 2 ∷ 1 ∷ 1 ∷ 1 ∷ 1 ∷ 3 ∷ 1 ∷ 3 ∷ 1 ∷ 1 ∷ 1 ∷ 3 ∷ 1 ∷ []) 1 (level 4 2 ∷ level 3 2 ∷ level 4 2 ∷ []) gives (11 ∷ 1 ∷ 1 ∷ 2 ∷ 2 ∷ 3 ∷ 3 ∷ 2 ∷ 1 ∷ 7 ∷ 3 ∷ 6 ∷ 5 ∷ 5 ∷ 1 ∷ 10 ∷ 2 ∷ 11 ∷ 3 ∷ 8 ∷ 4 ∷ 8 ∷ 5 ∷ 8 ∷ 0 ∷ 9 ∷ 8 ∷ 12 ∷ 13 ∷ 14 ∷ [])
    -- the third level counts: two levels take a step more
    ∷ clumped 3 6 (1 ∷ 1 ∷ 1 ∷ 1 ∷ 1 ∷ 1 ∷ 0 ∷ 0 ∷ 0 ∷ 1 ∷ 1 ∷ 1 ∷ 1 ∷ 1 ∷ 1 ∷ 1 ∷ 1 ∷ 1 ∷ []) 1 (level 2 2 ∷ level 5 2 ∷ []) gives (5 ∷ 2 ∷ 1 ∷ 4 ∷ 3 ∷ 4 ∷ 3 ∷ 2 ∷ 1 ∷ 7 ∷ 3 ∷ 5 ∷ 5 ∷ 0 ∷ 6 ∷ 6 ∷ 8 ∷ [])
    ∷ clumped 3 6 (1 ∷ 1 ∷ 1 ∷ 1 ∷ 1 ∷ 1 ∷ 0 ∷ 0 ∷ 0 ∷ 1 ∷ 1 ∷ 1 ∷ 1 ∷ 1 ∷ 1 ∷ 1 ∷ 1 ∷ 1 ∷ []) 1 (level 2 2 ∷ level 5 2 ∷ level 3 2 ∷ []) gives (4 ∷ 2 ∷ 1 ∷ 4 ∷ 3 ∷ 2 ∷ 1 ∷ 6 ∷ 3 ∷ 5 ∷ 5 ∷ 0 ∷ 5 ∷ 5 ∷ 7 ∷ [])
    -- groups of two inputs, and a zero payslip
    ∷ clumped 3 6 (1 ∷ 1 ∷ 1 ∷ 1 ∷ 1 ∷ 1 ∷ 2 ∷ 1 ∷ 3 ∷ 1 ∷ 2 ∷ 1 ∷ 0 ∷ 0 ∷ 0 ∷ 1 ∷ 2 ∷ 1 ∷ []) 2 (level 5 2 ∷ level 2 2 ∷ level 5 2 ∷ []) gives (11 ∷ 1 ∷ 1 ∷ 2 ∷ 2 ∷ 3 ∷ 3 ∷ 4 ∷ 1 ∷ 5 ∷ 2 ∷ 6 ∷ 3 ∷ 3 ∷ 1 ∷ 10 ∷ 2 ∷ 10 ∷ 5 ∷ 4 ∷ 2 ∷ 13 ∷ 9 ∷ 11 ∷ 11 ∷ 14 ∷ 12 ∷ 0 ∷ 12 ∷ [])
    -- nothing but zero payslips: no step
    ∷ clumped 2 3 (0 ∷ 0 ∷ 0 ∷ 0 ∷ 0 ∷ 0 ∷ []) 2 (level 2 2 ∷ level 3 3 ∷ []) gives (0 ∷ 0 ∷ 0 ∷ 0 ∷ [])
    -- one payslip: the chain of method 3
    ∷ clumped 2 1 (7 ∷ 12 ∷ []) 2 (level 2 2 ∷ level 2 2 ∷ level 8 8 ∷ []) gives (11 ∷ 1 ∷ 1 ∷ 3 ∷ 3 ∷ 2 ∷ 2 ∷ 5 ∷ 5 ∷ 6 ∷ 6 ∷ 3 ∷ 1 ∷ 4 ∷ 2 ∷ 6 ∷ 5 ∷ 8 ∷ 4 ∷ 11 ∷ 6 ∷ 12 ∷ 7 ∷ 13 ∷ [])
    -- the ends of each range: c = 1 and 8, a and b = 2 and 8
    ∷ clumped 2 9 (1 ∷ 1 ∷ 1 ∷ 1 ∷ 1 ∷ 1 ∷ 1 ∷ 1 ∷ 1 ∷ 1 ∷ 1 ∷ 1 ∷ 1 ∷ 1 ∷ 1 ∷ 1 ∷ 1 ∷ 0 ∷ []) 1 (level 8 8 ∷ []) gives (1 ∷ 2 ∷ 1 ∷ 3 ∷ 3 ∷ 3 ∷ 3 ∷ 3 ∷ 3 ∷ 3 ∷ 3 ∷ 1 ∷ [])
    ∷ clumped 1 2 (200 ∷ 200 ∷ []) 8 (level 2 2 ∷ level 8 2 ∷ level 2 2 ∷ []) gives (254 ∷ 1 ∷ 1 ∷ 2 ∷ 2 ∷ 3 ∷ 3 ∷ 4 ∷ 4 ∷ 5 ∷ 5 ∷ 6 ∷ 6 ∷ 7 ∷ 7 ∷ 2 ∷ 1 ∷ 3 ∷ 1 ∷ 3 ∷ 2 ∷ 11 ∷ 1 ∷ 4 ∷ 1 ∷ 4 ∷ 2 ∷ 14 ∷ 1 ∷ 4 ∷ 3 ∷ 16 ∷ 1 ∷ 16 ∷ 2 ∷ 18 ∷ 1 ∷ 5 ∷ 1 ∷ 5 ∷ 2 ∷ 21 ∷ 1 ∷ 5 ∷ 3 ∷ 23 ∷ 1 ∷ 23 ∷ 2 ∷ 25 ∷ 1 ∷ 5 ∷ 4 ∷ 27 ∷ 1 ∷ 27 ∷ 2 ∷ 29 ∷ 1 ∷ 27 ∷ 3 ∷ 31 ∷ 1 ∷ 31 ∷ 2 ∷ 33 ∷ 1 ∷ 6 ∷ 1 ∷ 6 ∷ 2 ∷ 36 ∷ 1 ∷ 6 ∷ 3 ∷ 38 ∷ 1 ∷ 38 ∷ 2 ∷ 40 ∷ 1 ∷ 6 ∷ 4 ∷ 42 ∷ 1 ∷ 42 ∷ 2 ∷ 44 ∷ 1 ∷ 42 ∷ 3 ∷ 46 ∷ 1 ∷ 46 ∷ 2 ∷ 48 ∷ 1 ∷ 6 ∷ 5 ∷ 50 ∷ 1 ∷ 50 ∷ 2 ∷ 52 ∷ 1 ∷ 50 ∷ 3 ∷ 54 ∷ 1 ∷ 54 ∷ 2 ∷ 56 ∷ 1 ∷ 50 ∷ 4 ∷ 58 ∷ 1 ∷ 58 ∷ 2 ∷ 60 ∷ 1 ∷ 58 ∷ 3 ∷ 62 ∷ 1 ∷ 62 ∷ 2 ∷ 64 ∷ 1 ∷ 7 ∷ 1 ∷ 7 ∷ 2 ∷ 67 ∷ 1 ∷ 7 ∷ 3 ∷ 69 ∷ 1 ∷ 69 ∷ 2 ∷ 71 ∷ 1 ∷ 7 ∷ 4 ∷ 73 ∷ 1 ∷ 73 ∷ 2 ∷ 75 ∷ 1 ∷ 73 ∷ 3 ∷ 77 ∷ 1 ∷ 77 ∷ 2 ∷ 79 ∷ 1 ∷ 7 ∷ 5 ∷ 81 ∷ 1 ∷ 81 ∷ 2 ∷ 83 ∷ 1 ∷ 81 ∷ 3 ∷ 85 ∷ 1 ∷ 85 ∷ 2 ∷ 87 ∷ 1 ∷ 81 ∷ 4 ∷ 89 ∷ 1 ∷ 89 ∷ 2 ∷ 91 ∷ 1 ∷ 89 ∷ 3 ∷ 93 ∷ 1 ∷ 93 ∷ 2 ∷ 95 ∷ 1 ∷ 7 ∷ 6 ∷ 97 ∷ 1 ∷ 97 ∷ 2 ∷ 99 ∷ 1 ∷ 97 ∷ 3 ∷ 101 ∷ 1 ∷ 101 ∷ 2 ∷ 103 ∷ 1 ∷ 97 ∷ 4 ∷ 105 ∷ 1 ∷ 105 ∷ 2 ∷ 107 ∷ 1 ∷ 105 ∷ 3 ∷ 109 ∷ 1 ∷ 109 ∷ 2 ∷ 111 ∷ 1 ∷ 97 ∷ 5 ∷ 113 ∷ 1 ∷ 113 ∷ 2 ∷ 115 ∷ 1 ∷ 113 ∷ 3 ∷ 117 ∷ 1 ∷ 117 ∷ 2 ∷ 119 ∷ 1 ∷ 113 ∷ 4 ∷ 121 ∷ 1 ∷ 121 ∷ 2 ∷ 123 ∷ 1 ∷ 121 ∷ 3 ∷ 125 ∷ 1 ∷ 125 ∷ 2 ∷ 127 ∷ 1 ∷ 8 ∷ 1 ∷ 8 ∷ 2 ∷ 130 ∷ 1 ∷ 8 ∷ 3 ∷ 132 ∷ 1 ∷ 132 ∷ 2 ∷ 134 ∷ 1 ∷ 8 ∷ 4 ∷ 136 ∷ 1 ∷ 136 ∷ 2 ∷ 138 ∷ 1 ∷ 136 ∷ 3 ∷ 140 ∷ 1 ∷ 140 ∷ 2 ∷ 142 ∷ 1 ∷ 8 ∷ 5 ∷ 144 ∷ 1 ∷ 144 ∷ 2 ∷ 146 ∷ 1 ∷ 144 ∷ 3 ∷ 148 ∷ 1 ∷ 148 ∷ 2 ∷ 150 ∷ 1 ∷ 144 ∷ 4 ∷ 152 ∷ 1 ∷ 152 ∷ 2 ∷ 154 ∷ 1 ∷ 152 ∷ 3 ∷ 156 ∷ 1 ∷ 156 ∷ 2 ∷ 158 ∷ 1 ∷ 8 ∷ 6 ∷ 160 ∷ 1 ∷ 160 ∷ 2 ∷ 162 ∷ 1 ∷ 160 ∷ 3 ∷ 164 ∷ 1 ∷ 164 ∷ 2 ∷ 166 ∷ 1 ∷ 160 ∷ 4 ∷ 168 ∷ 1 ∷ 168 ∷ 2 ∷ 170 ∷ 1 ∷ 168 ∷ 3 ∷ 172 ∷ 1 ∷ 172 ∷ 2 ∷ 174 ∷ 1 ∷ 160 ∷ 5 ∷ 176 ∷ 1 ∷ 176 ∷ 2 ∷ 178 ∷ 1 ∷ 176 ∷ 3 ∷ 180 ∷ 1 ∷ 180 ∷ 2 ∷ 182 ∷ 1 ∷ 176 ∷ 4 ∷ 184 ∷ 1 ∷ 184 ∷ 2 ∷ 186 ∷ 1 ∷ 184 ∷ 3 ∷ 188 ∷ 1 ∷ 188 ∷ 2 ∷ 190 ∷ 1 ∷ 8 ∷ 7 ∷ 192 ∷ 1 ∷ 192 ∷ 2 ∷ 194 ∷ 1 ∷ 192 ∷ 3 ∷ 196 ∷ 1 ∷ 196 ∷ 2 ∷ 198 ∷ 1 ∷ 192 ∷ 4 ∷ 200 ∷ 1 ∷ 200 ∷ 2 ∷ 202 ∷ 1 ∷ 200 ∷ 3 ∷ 204 ∷ 1 ∷ 204 ∷ 2 ∷ 206 ∷ 1 ∷ 192 ∷ 5 ∷ 208 ∷ 1 ∷ 208 ∷ 2 ∷ 210 ∷ 1 ∷ 208 ∷ 3 ∷ 212 ∷ 1 ∷ 212 ∷ 2 ∷ 214 ∷ 1 ∷ 208 ∷ 4 ∷ 216 ∷ 1 ∷ 216 ∷ 2 ∷ 218 ∷ 1 ∷ 216 ∷ 3 ∷ 220 ∷ 1 ∷ 220 ∷ 2 ∷ 222 ∷ 1 ∷ 192 ∷ 6 ∷ 224 ∷ 1 ∷ 224 ∷ 2 ∷ 226 ∷ 1 ∷ 224 ∷ 3 ∷ 228 ∷ 1 ∷ 228 ∷ 2 ∷ 230 ∷ 1 ∷ 224 ∷ 4 ∷ 232 ∷ 1 ∷ 232 ∷ 2 ∷ 234 ∷ 1 ∷ 232 ∷ 3 ∷ 236 ∷ 1 ∷ 236 ∷ 2 ∷ 238 ∷ 1 ∷ 224 ∷ 5 ∷ 240 ∷ 1 ∷ 240 ∷ 2 ∷ 242 ∷ 1 ∷ 240 ∷ 3 ∷ 244 ∷ 1 ∷ 244 ∷ 2 ∷ 246 ∷ 1 ∷ 240 ∷ 4 ∷ 248 ∷ 1 ∷ 248 ∷ 2 ∷ 250 ∷ 1 ∷ 248 ∷ 3 ∷ 252 ∷ 1 ∷ 252 ∷ 2 ∷ 254 ∷ 1 ∷ 200 ∷ 200 ∷ [])
    ∷ clumped 2 9 (3 ∷ 1 ∷ 3 ∷ 1 ∷ 3 ∷ 1 ∷ 3 ∷ 1 ∷ 3 ∷ 1 ∷ 3 ∷ 1 ∷ 3 ∷ 1 ∷ 3 ∷ 1 ∷ 3 ∷ 1 ∷ []) 1 (level 8 2 ∷ level 2 2 ∷ level 8 8 ∷ []) gives (8 ∷ 1 ∷ 1 ∷ 3 ∷ 1 ∷ 4 ∷ 2 ∷ 4 ∷ 2 ∷ 4 ∷ 2 ∷ 4 ∷ 2 ∷ 3 ∷ 1 ∷ 9 ∷ 2 ∷ 5 ∷ 5 ∷ 6 ∷ 6 ∷ 7 ∷ 7 ∷ 8 ∷ 8 ∷ 10 ∷ [])
    -- zero payslips are no outputs; level 3 is of the inputs
    ∷ clumped 2 7 (1 ∷ 1 ∷ 1 ∷ 1 ∷ 1 ∷ 1 ∷ 0 ∷ 0 ∷ 1 ∷ 1 ∷ 1 ∷ 1 ∷ 1 ∷ 1 ∷ []) 1 (level 4 2 ∷ level 3 2 ∷ []) gives (1 ∷ 2 ∷ 1 ∷ 3 ∷ 3 ∷ 3 ∷ 0 ∷ 3 ∷ 3 ∷ 3 ∷ [])
    -- only parts that are used are inputs
    ∷ clumped 3 5 (1 ∷ 1 ∷ 1 ∷ 1 ∷ 1 ∷ 1 ∷ 0 ∷ 1 ∷ 0 ∷ 1 ∷ 1 ∷ 1 ∷ 1 ∷ 1 ∷ 1 ∷ []) 2 (level 3 2 ∷ level 3 2 ∷ []) gives (2 ∷ 2 ∷ 1 ∷ 4 ∷ 3 ∷ 5 ∷ 5 ∷ 2 ∷ 5 ∷ 5 ∷ [])
    -- inputs by group and then by t
    ∷ clumped 3 6 (1 ∷ 0 ∷ 0 ∷ 1 ∷ 1 ∷ 1 ∷ 1 ∷ 1 ∷ 1 ∷ 0 ∷ 1 ∷ 0 ∷ 1 ∷ 1 ∷ 1 ∷ 1 ∷ 1 ∷ 1 ∷ []) 2 (level 3 2 ∷ level 2 2 ∷ []) gives (2 ∷ 2 ∷ 1 ∷ 4 ∷ 3 ∷ 1 ∷ 5 ∷ 5 ∷ 2 ∷ 5 ∷ 5 ∷ [])
    -- inputs rise
    ∷ clumped 3 3 (1 ∷ 1 ∷ 1 ∷ 1 ∷ 1 ∷ 1 ∷ 1 ∷ 1 ∷ 1 ∷ []) 1 (level 4 3 ∷ []) gives (2 ∷ 2 ∷ 1 ∷ 4 ∷ 3 ∷ 5 ∷ 5 ∷ 5 ∷ [])
    -- none is taken over the border of a part
    ∷ clumped 2 7 (1 ∷ 1 ∷ 1 ∷ 1 ∷ 1 ∷ 1 ∷ 1 ∷ 1 ∷ 1 ∷ 0 ∷ 1 ∷ 1 ∷ 1 ∷ 1 ∷ []) 1 (level 5 2 ∷ level 2 2 ∷ []) gives (1 ∷ 2 ∷ 1 ∷ 3 ∷ 3 ∷ 3 ∷ 3 ∷ 1 ∷ 3 ∷ 3 ∷ [])
    -- the last part is the shorter one
    ∷ clumped 2 5 (0 ∷ 0 ∷ 1 ∷ 1 ∷ 1 ∷ 1 ∷ 1 ∷ 0 ∷ 0 ∷ 1 ∷ []) 1 (level 3 2 ∷ level 2 2 ∷ []) gives (1 ∷ 2 ∷ 1 ∷ 0 ∷ 3 ∷ 3 ∷ 1 ∷ 2 ∷ [])
    -- parts begin at index 0; a part may have several clumps
    ∷ clumped 3 5 (0 ∷ 0 ∷ 1 ∷ 0 ∷ 0 ∷ 1 ∷ 1 ∷ 0 ∷ 1 ∷ 1 ∷ 0 ∷ 1 ∷ 0 ∷ 0 ∷ 0 ∷ []) 1 (level 4 2 ∷ level 3 2 ∷ []) gives (1 ∷ 3 ∷ 1 ∷ 3 ∷ 3 ∷ 4 ∷ 4 ∷ 0 ∷ [])
    -- taken from the lowest on; equal clumps are one
    ∷ clumped 2 5 (1 ∷ 1 ∷ 1 ∷ 1 ∷ 1 ∷ 0 ∷ 1 ∷ 0 ∷ 0 ∷ 1 ∷ []) 1 (level 5 2 ∷ []) gives (1 ∷ 2 ∷ 1 ∷ 3 ∷ 3 ∷ 1 ∷ 1 ∷ 2 ∷ [])
    -- fewer than b are no clump
    ∷ clumped 2 3 (1 ∷ 1 ∷ 1 ∷ 1 ∷ 1 ∷ 1 ∷ []) 1 (level 4 2 ∷ level 4 3 ∷ level 5 2 ∷ []) gives (2 ∷ 2 ∷ 1 ∷ 2 ∷ 1 ∷ 3 ∷ 3 ∷ 4 ∷ [])
    -- by members, not by first occurrence
    ∷ clumped 3 5 (0 ∷ 1 ∷ 1 ∷ 0 ∷ 1 ∷ 1 ∷ 1 ∷ 1 ∷ 0 ∷ 1 ∷ 1 ∷ 0 ∷ 0 ∷ 0 ∷ 1 ∷ []) 1 (level 4 2 ∷ []) gives (2 ∷ 3 ∷ 2 ∷ 2 ∷ 1 ∷ 4 ∷ 4 ∷ 5 ∷ 5 ∷ 3 ∷ [])
    -- by the first member before the second
    ∷ clumped 4 3 (1 ∷ 0 ∷ 0 ∷ 1 ∷ 1 ∷ 1 ∷ 1 ∷ 1 ∷ 0 ∷ 1 ∷ 1 ∷ 0 ∷ []) 1 (level 3 2 ∷ level 4 2 ∷ level 3 2 ∷ []) gives (3 ∷ 4 ∷ 1 ∷ 3 ∷ 2 ∷ 6 ∷ 5 ∷ 5 ∷ 7 ∷ 6 ∷ [])
    -- rising
    ∷ clumped 2 6 (1 ∷ 1 ∷ 1 ∷ 1 ∷ 1 ∷ 1 ∷ 1 ∷ 1 ∷ 0 ∷ 1 ∷ 0 ∷ 1 ∷ []) 1 (level 2 2 ∷ level 4 3 ∷ level 5 2 ∷ []) gives (1 ∷ 2 ∷ 1 ∷ 3 ∷ 3 ∷ 3 ∷ 3 ∷ 2 ∷ 2 ∷ [])
    -- clumps before overflow
    ∷ clumped 3 3 (1 ∷ 1 ∷ 1 ∷ 0 ∷ 0 ∷ 1 ∷ 0 ∷ 1 ∷ 0 ∷ []) 1 (level 5 2 ∷ level 4 2 ∷ []) gives (2 ∷ 3 ∷ 2 ∷ 4 ∷ 1 ∷ 5 ∷ 3 ∷ 2 ∷ [])
    -- clumps by rising members
    ∷ clumped 3 6 (1 ∷ 0 ∷ 0 ∷ 0 ∷ 0 ∷ 0 ∷ 0 ∷ 1 ∷ 0 ∷ 1 ∷ 1 ∷ 1 ∷ 0 ∷ 0 ∷ 1 ∷ 0 ∷ 0 ∷ 0 ∷ []) 1 (level 5 2 ∷ []) gives (2 ∷ 2 ∷ 1 ∷ 4 ∷ 3 ∷ 1 ∷ 0 ∷ 2 ∷ 5 ∷ 3 ∷ 0 ∷ [])
    -- overflow by rising inputs
    ∷ clumped 3 4 (0 ∷ 1 ∷ 0 ∷ 0 ∷ 0 ∷ 1 ∷ 1 ∷ 1 ∷ 1 ∷ 1 ∷ 0 ∷ 0 ∷ []) 1 (level 3 3 ∷ []) gives (2 ∷ 2 ∷ 1 ∷ 4 ∷ 3 ∷ 2 ∷ 3 ∷ 5 ∷ 1 ∷ [])
    -- input clumps before the plain inputs
    ∷ clumped 4 3 (1 ∷ 1 ∷ 1 ∷ 1 ∷ 1 ∷ 1 ∷ 1 ∷ 1 ∷ 1 ∷ 1 ∷ 1 ∷ 1 ∷ []) 1 (level 4 3 ∷ level 3 2 ∷ level 4 3 ∷ []) gives (3 ∷ 2 ∷ 1 ∷ 5 ∷ 3 ∷ 6 ∷ 4 ∷ 7 ∷ 7 ∷ 7 ∷ [])
    -- an output's clumps before its overflow
    ∷ clumped 4 3 (1 ∷ 1 ∷ 1 ∷ 1 ∷ 1 ∷ 1 ∷ 1 ∷ 1 ∷ 1 ∷ 1 ∷ 0 ∷ 0 ∷ []) 1 (level 5 2 ∷ level 3 2 ∷ []) gives (4 ∷ 2 ∷ 1 ∷ 5 ∷ 3 ∷ 6 ∷ 4 ∷ 2 ∷ 1 ∷ 7 ∷ 7 ∷ 8 ∷ [])
    -- level 4 is of the outputs
    ∷ clumped 3 6 (1 ∷ 1 ∷ 1 ∷ 1 ∷ 1 ∷ 1 ∷ 1 ∷ 1 ∷ 1 ∷ 0 ∷ 1 ∷ 0 ∷ 1 ∷ 1 ∷ 1 ∷ 0 ∷ 0 ∷ 1 ∷ []) 2 (level 5 2 ∷ level 4 3 ∷ level 2 2 ∷ []) gives (2 ∷ 2 ∷ 1 ∷ 4 ∷ 3 ∷ 5 ∷ 5 ∷ 5 ∷ 2 ∷ 5 ∷ 3 ∷ [])
    -- level 2 is of the outputs; the first pair is that of level 2
    ∷ clumped 2 5 (1 ∷ 1 ∷ 0 ∷ 0 ∷ 1 ∷ 1 ∷ 1 ∷ 1 ∷ 0 ∷ 1 ∷ []) 1 (level 5 3 ∷ level 4 2 ∷ []) gives (1 ∷ 2 ∷ 1 ∷ 3 ∷ 0 ∷ 3 ∷ 3 ∷ 2 ∷ [])
    -- of a list in parts of 4, two at a time: 1, 2 and 4, 5, then 6, 7 are taken, 3 and 9 are left over
    ∷ measured (clumps_of (level 4 2) 10 (1 ∷ 2 ∷ 3 ∷ 4 ∷ 5 ∷ 6 ∷ 7 ∷ 9 ∷ [])) gives (2 ∷ 1 ∷ 2 ∷ 2 ∷ 4 ∷ 5 ∷ 2 ∷ 6 ∷ 7 ∷ [])
    ∷ overflow_of (level 4 2) 10 (1 ∷ 2 ∷ 3 ∷ 4 ∷ 5 ∷ 6 ∷ 7 ∷ 9 ∷ []) gives (3 ∷ 9 ∷ [])
    -- the outputs over two clumps and then all four inputs, of which none uses the first two any more
    ∷ measured (next_inputs (level 3 2) 4 ((0 ∷ 1 ∷ 2 ∷ 3 ∷ []) ∷ (0 ∷ 2 ∷ []) ∷ (3 ∷ []) ∷ [])) gives (3 ∷ 0 ∷ 4 ∷ 5 ∷ 1 ∷ 1 ∷ 1 ∷ 5 ∷ [])
    ∷ []

pub clumped_hold : (d : Row) (k : ℕ) → k < length clump_rows → Holds (get_or clump_rows k d)
unfolding clump_rows
clumped_hold d k h = rows_hold clump_rows d tt k h
