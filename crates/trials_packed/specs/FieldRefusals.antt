-- Refusals of packed sheets (Spec 10.2, 10.3): each with its place and the slice as it was; then inputs with two faults at once, one for each two
-- neighbours in the orders.
use Rattle.std.specs.Prelude.{List, [], ◌∷◌, ◌++◌, ℕ, ◌<◌, length, get_or, replicate}
use Rattle.trials.specs.Rows.{Row, ◌gives◌, Holds, rows_hold}
use Rattle.trials.specs.Trials.{nines}
use Rattle.trials_packed.specs.Fields.{packed_definitions, reading, writing}

-- fields that say 0: a good one, a negative one, and one with a bad digit
abbrev pub good : List ℕ
good = 0 ∷ 0 ∷ 0 ∷ 0 ∷ 12 ∷ []

abbrev pub negative : List ℕ
negative = 0 ∷ 0 ∷ 0 ∷ 0 ∷ 13 ∷ []

abbrev pub spoilt : List ℕ
spoilt = 0 ∷ 10 ∷ 0 ∷ 0 ∷ 12 ∷ []

-- the least amount that nine digits cannot say
abbrev pub too_large : ℕ
too_large = 1000000000

unfoldable pub field_refusals : List Row
unfolding packed_definitions
field_refusals =
    -- 1: p and q, in reading and in writing; and the largest sheet
    reading 0 1 [] 1 gives (1 ∷ 0 ∷ 9 ∷ [])
    ∷ reading 17 1 [] 1 gives (1 ∷ 0 ∷ 9 ∷ [])
    ∷ reading 1 0 [] 1 gives (1 ∷ 0 ∷ 9 ∷ [])
    ∷ reading 1 65 [] 1 gives (1 ∷ 0 ∷ 9 ∷ [])
    ∷ writing 0 1 [] 1 gives (1 ∷ 0 ∷ 9 ∷ [])
    ∷ writing 17 1 [] 1 gives (1 ∷ 0 ∷ 9 ∷ [])
    ∷ writing 1 0 [] 1 gives (1 ∷ 0 ∷ 9 ∷ [])
    ∷ writing 1 65 [] 1 gives (1 ∷ 0 ∷ 9 ∷ [])
    ∷ writing 16 64 (replicate 1024 too_large) 0 gives (20 ∷ 1 ∷ [])
    -- 2: a byte fewer than the fields have, one more, none, a field fewer, a field more, and an amount for each byte
    ∷ reading 1 1 (0 ∷ 0 ∷ 0 ∷ 12 ∷ []) 1 gives (2 ∷ 0 ∷ 9 ∷ [])
    ∷ reading 1 1 (good ++ 0 ∷ []) 1 gives (2 ∷ 0 ∷ 9 ∷ [])
    ∷ reading 1 1 [] 1 gives (2 ∷ 0 ∷ 9 ∷ [])
    ∷ reading 2 1 good 2 gives (2 ∷ 0 ∷ 9 ∷ 9 ∷ [])
    ∷ reading 1 1 (good ++ good) 2 gives (2 ∷ 0 ∷ 9 ∷ 9 ∷ [])
    ∷ reading 5 1 good 5 gives (2 ∷ 0 ∷ nines 5)
    -- 2 in writing: an amount fewer, and one more
    ∷ writing 2 1 (1 ∷ []) 10 gives (2 ∷ 0 ∷ nines 10)
    ∷ writing 1 1 (1 ∷ 2 ∷ []) 10 gives (2 ∷ 0 ∷ nines 10)
    -- 18 and 19 at the field's number, by payslips and then columns
    ∷ reading 2 2 (good ++ good ++ spoilt ++ good) 4 gives (18 ∷ 3 ∷ nines 4)
    ∷ reading 2 2 (good ++ good ++ good ++ negative) 4 gives (19 ∷ 4 ∷ nines 4)
    -- of two faults the first field's
    ∷ reading 2 2 (good ++ negative ++ spoilt ++ good) 4 gives (19 ∷ 2 ∷ nines 4)
    ∷ reading 2 2 (good ++ spoilt ++ negative ++ good) 4 gives (18 ∷ 2 ∷ nines 4)
    ∷ reading 2 1 (spoilt ++ spoilt) 2 gives (18 ∷ 1 ∷ 9 ∷ 9 ∷ [])
    ∷ reading 2 1 (negative ++ negative) 2 gives (19 ∷ 1 ∷ 9 ∷ 9 ∷ [])
    -- 20 at the amount's number
    ∷ writing 2 2 (1 ∷ 2 ∷ too_large ∷ too_large ∷ []) 20 gives (20 ∷ 3 ∷ nines 20)
    -- 5: an amount fewer than there are fields, and a byte fewer
    ∷ reading 2 1 (good ++ good) 1 gives (5 ∷ 0 ∷ 9 ∷ [])
    ∷ writing 2 1 (1 ∷ 2 ∷ []) 9 gives (5 ∷ 0 ∷ nines 9)
    -- 1 before 2
    ∷ reading 0 1 good 1 gives (1 ∷ 0 ∷ 9 ∷ [])
    ∷ writing 1 65 (1 ∷ []) 5 gives (1 ∷ 0 ∷ nines 5)
    -- 2 before 18 and 19, and before 20
    ∷ reading 2 1 spoilt 2 gives (2 ∷ 0 ∷ 9 ∷ 9 ∷ [])
    ∷ reading 2 1 negative 2 gives (2 ∷ 0 ∷ 9 ∷ 9 ∷ [])
    ∷ writing 2 1 (too_large ∷ []) 10 gives (2 ∷ 0 ∷ nines 10)
    -- 18 and 19 before 5, and 20
    ∷ reading 2 1 (good ++ spoilt) 1 gives (18 ∷ 2 ∷ 9 ∷ [])
    ∷ reading 2 1 (good ++ negative) 0 gives (19 ∷ 2 ∷ [])
    ∷ writing 1 1 (too_large ∷ []) 4 gives (20 ∷ 1 ∷ nines 4)
    ∷ []

pub refusals_hold : (d : Row) (k : ℕ) → k < length field_refusals → Holds (get_or field_refusals k d)
unfolding field_refusals
refusals_hold d k h = rows_hold field_refusals d tt k h
