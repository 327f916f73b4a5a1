-- Packed fields read and written: the answer and the slice, whose cells hold 9 before (Spec 1.4, 7.5).
use Rattle.std.specs.Prelude.{List, [], ◌∷◌, ◌++◌, ℕ, ◌<◌, length, get_or}
use Rattle.compile.specs.Compile.{compile_answer, compile_steps}
use Rattle.packed.specs.Field.{digits_of, sign_of, amount_of, field_of, is_sign, field_rule, written_back}
use Rattle.packed.specs.Packed.{unpacked, packed, readable_rule, unpack_rule, unpack_answer, unpack_amounts, writable_rule, pack_rule, pack_answer, pack_bytes}
use Rattle.trials.specs.Rows.{Row, ◌gives◌, Holds, rows_hold, answered, definitions}
use Rattle.trials.specs.Trials.{nines, steps_a}

-- a table that unfolds this unfolds all that a packed sheet is read and written by
unfoldable pub packed_definitions : Unit {0}
unfolding
    definitions
    digits_of
    sign_of
    amount_of
    field_of
    is_sign
    field_rule
    written_back
    readable_rule
    unpack_rule
    unpack_answer
    unpack_amounts
    writable_rule
    pack_rule
    pack_answer
    pack_bytes
packed_definitions = tt

-- bytes read into so many amounts, and amounts written into so many bytes
abbrev pub reading : ℕ → ℕ → List ℕ → ℕ → List ℕ
reading p q bytes lent = answered (unpack_answer p q bytes lent) ++ unpack_amounts p q bytes (nines lent)

abbrev pub writing : ℕ → ℕ → List ℕ → ℕ → List ℕ
writing p q amounts lent = answered (pack_answer p q amounts lent) ++ pack_bytes p q amounts (nines lent)

-- one field alone, by its bytes, and one amount alone
abbrev pub field : ℕ → ℕ → ℕ → ℕ → ℕ → List ℕ
field a b c d e = reading 1 1 (a ∷ b ∷ c ∷ d ∷ e ∷ []) 1

abbrev pub amount : ℕ → List ℕ
amount x = writing 1 1 (x ∷ []) 5

-- a field that says 0, with a sign
abbrev pub sign : ℕ → List ℕ
sign s = field 0 0 0 0 s

-- payslip (3, 2) as fields, the first of them unsigned
abbrev pub fields_a : List ℕ
fields_a = 0 ∷ 0 ∷ 0 ∷ 0 ∷ 63 ∷ 0 ∷ 0 ∷ 0 ∷ 0 ∷ 44 ∷ []

-- a payslip of two amounts compiled by Straus 1 into three steps
abbrev pub compiled : List ℕ → List ℕ
compiled amounts = answered (compile_answer 2 1 amounts 1 1 3 1) ++ compile_steps 2 1 amounts 1 1 1 (nines 6)

unfoldable pub field_rows : List Row
unfolding packed_definitions
field_rows =
    -- 0, 1, a digit in each place, the largest; with plus and unsigned
    field 0 0 0 0 12 gives (0 ∷ 1 ∷ 0 ∷ [])
    ∷ field 0 0 0 0 28 gives (0 ∷ 1 ∷ 1 ∷ [])
    ∷ field 18 52 86 120 156 gives (0 ∷ 1 ∷ 123456789 ∷ [])
    ∷ field 153 153 153 153 156 gives (0 ∷ 1 ∷ 999999999 ∷ [])
    ∷ field 0 0 0 0 15 gives (0 ∷ 1 ∷ 0 ∷ [])
    ∷ field 152 118 84 50 31 gives (0 ∷ 1 ∷ 987654321 ∷ [])
    -- each digit has its weight
    ∷ field 16 0 0 0 12 gives (0 ∷ 1 ∷ 100000000 ∷ [])
    ∷ field 1 0 0 0 12 gives (0 ∷ 1 ∷ 10000000 ∷ [])
    ∷ field 0 16 0 0 12 gives (0 ∷ 1 ∷ 1000000 ∷ [])
    ∷ field 0 1 0 0 12 gives (0 ∷ 1 ∷ 100000 ∷ [])
    ∷ field 0 0 16 0 12 gives (0 ∷ 1 ∷ 10000 ∷ [])
    ∷ field 0 0 1 0 12 gives (0 ∷ 1 ∷ 1000 ∷ [])
    ∷ field 0 0 0 16 12 gives (0 ∷ 1 ∷ 100 ∷ [])
    ∷ field 0 0 0 1 12 gives (0 ∷ 1 ∷ 10 ∷ [])
    ∷ field 0 0 0 0 28 gives (0 ∷ 1 ∷ 1 ∷ [])
    -- the sixteen signs of a field that says 0
    ∷ sign 0 gives (18 ∷ 1 ∷ 9 ∷ [])
    ∷ sign 1 gives (18 ∷ 1 ∷ 9 ∷ [])
    ∷ sign 2 gives (18 ∷ 1 ∷ 9 ∷ [])
    ∷ sign 3 gives (18 ∷ 1 ∷ 9 ∷ [])
    ∷ sign 4 gives (18 ∷ 1 ∷ 9 ∷ [])
    ∷ sign 5 gives (18 ∷ 1 ∷ 9 ∷ [])
    ∷ sign 6 gives (18 ∷ 1 ∷ 9 ∷ [])
    ∷ sign 7 gives (18 ∷ 1 ∷ 9 ∷ [])
    ∷ sign 8 gives (18 ∷ 1 ∷ 9 ∷ [])
    ∷ sign 9 gives (18 ∷ 1 ∷ 9 ∷ [])
    ∷ sign 10 gives (18 ∷ 1 ∷ 9 ∷ [])
    ∷ sign 11 gives (18 ∷ 1 ∷ 9 ∷ [])
    ∷ sign 12 gives (0 ∷ 1 ∷ 0 ∷ [])
    ∷ sign 13 gives (19 ∷ 1 ∷ 9 ∷ [])
    ∷ sign 14 gives (18 ∷ 1 ∷ 9 ∷ [])
    ∷ sign 15 gives (0 ∷ 1 ∷ 0 ∷ [])
    -- A in the place of each digit
    ∷ field 160 0 0 0 12 gives (18 ∷ 1 ∷ 9 ∷ [])
    ∷ field 10 0 0 0 12 gives (18 ∷ 1 ∷ 9 ∷ [])
    ∷ field 0 160 0 0 12 gives (18 ∷ 1 ∷ 9 ∷ [])
    ∷ field 0 10 0 0 12 gives (18 ∷ 1 ∷ 9 ∷ [])
    ∷ field 0 0 160 0 12 gives (18 ∷ 1 ∷ 9 ∷ [])
    ∷ field 0 0 10 0 12 gives (18 ∷ 1 ∷ 9 ∷ [])
    ∷ field 0 0 0 160 12 gives (18 ∷ 1 ∷ 9 ∷ [])
    ∷ field 0 0 0 10 12 gives (18 ∷ 1 ∷ 9 ∷ [])
    ∷ field 0 0 0 0 172 gives (18 ∷ 1 ∷ 9 ∷ [])
    -- F in the first place and in the last
    ∷ field 240 0 0 0 12 gives (18 ∷ 1 ∷ 9 ∷ [])
    ∷ field 0 0 0 0 252 gives (18 ∷ 1 ∷ 9 ∷ [])
    -- minus on an amount that is not 0
    ∷ field 0 0 0 0 93 gives (19 ∷ 1 ∷ 9 ∷ [])
    -- a bad digit and minus in one field, the digit first and last
    ∷ field 160 0 0 0 13 gives (18 ∷ 1 ∷ 9 ∷ [])
    ∷ field 0 0 0 0 173 gives (18 ∷ 1 ∷ 9 ∷ [])
    -- fields in order: payslip by payslip, column by column; cells past the amounts
    ∷ reading 2 2 (0 ∷ 0 ∷ 0 ∷ 0 ∷ 28 ∷ 0 ∷ 0 ∷ 0 ∷ 0 ∷ 47 ∷ 0 ∷ 0 ∷ 0 ∷ 0 ∷ 60 ∷ 0 ∷ 0 ∷ 0 ∷ 0 ∷ 79 ∷ []) 5 gives (0 ∷ 4 ∷ 1 ∷ 2 ∷ 3 ∷ 4 ∷ 9 ∷ [])
    ∷ reading 3 1 (153 ∷ 153 ∷ 153 ∷ 153 ∷ 156 ∷ 0 ∷ 0 ∷ 0 ∷ 0 ∷ 12 ∷ 0 ∷ 0 ∷ 0 ∷ 0 ∷ 124 ∷ []) 3 gives (0 ∷ 3 ∷ 999999999 ∷ 0 ∷ 7 ∷ [])
    -- written with plus; one more than nine digits say
    ∷ amount 0 gives (0 ∷ 1 ∷ 0 ∷ 0 ∷ 0 ∷ 0 ∷ 12 ∷ [])
    ∷ amount 1 gives (0 ∷ 1 ∷ 0 ∷ 0 ∷ 0 ∷ 0 ∷ 28 ∷ [])
    ∷ amount 123456789 gives (0 ∷ 1 ∷ 18 ∷ 52 ∷ 86 ∷ 120 ∷ 156 ∷ [])
    ∷ amount 999999999 gives (0 ∷ 1 ∷ 153 ∷ 153 ∷ 153 ∷ 153 ∷ 156 ∷ [])
    ∷ amount 1000000000 gives (20 ∷ 1 ∷ 9 ∷ 9 ∷ 9 ∷ 9 ∷ 9 ∷ [])
    ∷ amount 4294967295 gives (20 ∷ 1 ∷ 9 ∷ 9 ∷ 9 ∷ 9 ∷ 9 ∷ [])
    -- fields in order; bytes past them
    ∷ writing 2 1 (10 ∷ 200 ∷ []) 11 gives (0 ∷ 2 ∷ 0 ∷ 0 ∷ 0 ∷ 1 ∷ 12 ∷ 0 ∷ 0 ∷ 0 ∷ 32 ∷ 12 ∷ 9 ∷ [])
    ∷ writing 1 2 (999999999 ∷ 0 ∷ []) 10 gives (0 ∷ 2 ∷ 153 ∷ 153 ∷ 153 ∷ 153 ∷ 156 ∷ 0 ∷ 0 ∷ 0 ∷ 0 ∷ 12 ∷ [])
    -- read and written back: unsigned has become plus, and nothing else has changed
    ∷ packed (unpacked 2 2 (0 ∷ 0 ∷ 0 ∷ 0 ∷ 28 ∷ 0 ∷ 0 ∷ 0 ∷ 0 ∷ 47 ∷ 0 ∷ 0 ∷ 0 ∷ 0 ∷ 60 ∷ 0 ∷ 0 ∷ 0 ∷ 0 ∷ 79 ∷ [])) gives (0 ∷ 0 ∷ 0 ∷ 0 ∷ 28 ∷ 0 ∷ 0 ∷ 0 ∷ 0 ∷ 44 ∷ 0 ∷ 0 ∷ 0 ∷ 0 ∷ 60 ∷ 0 ∷ 0 ∷ 0 ∷ 0 ∷ 76 ∷ [])
    ∷ written_back (18 ∷ 52 ∷ 86 ∷ 120 ∷ 159 ∷ []) gives (18 ∷ 52 ∷ 86 ∷ 120 ∷ 156 ∷ [])
    ∷ written_back (18 ∷ 52 ∷ 86 ∷ 120 ∷ 156 ∷ []) gives (18 ∷ 52 ∷ 86 ∷ 120 ∷ 156 ∷ [])
    -- a payslip read from fields is compiled as any other
    ∷ compiled (unpacked 2 1 fields_a) gives (0 ∷ 3 ∷ 1 ∷ 2 ∷ steps_a)
    ∷ []

pub fields_hold : (d : Row) (k : ℕ) → k < length field_rows → Holds (get_or field_rows k d)
unfolding field_rows
fields_hold d k h = rows_hold field_rows d tt k h
