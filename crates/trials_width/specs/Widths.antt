-- Widths at both ends of every case: by cases, as W of a file, by the file's length, and in its bytes (Spec 5.1 to 5.4, 7.6).
use Rattle.std.specs.Prelude.{List, [], ◌∷◌, ◌++◌, ℕ, ◌-◌, ◌<◌, length, get_or}
use Rattle.chain.specs.Chain.{by}
use Rattle.width.specs.Cases.{width_by_cases}
use Rattle.layout.specs.Layout.{edition1}
use Rattle.layout.specs.File.{width, extent_answer, file_of}
use Rattle.layout.specs.Widths.{width_stated}
use Rattle.trials.specs.Rows.{Row, ◌gives◌, Holds, rows_hold, answered, definitions}
use Rattle.trials.specs.Files.{file_j}

-- both ends of a case: the width by cases, and W of a file with one column and that p + n
abbrev pub ends : ℕ → ℕ → List ℕ
ends first last = width_by_cases first ∷ width_by_cases last ∷ width 1 (first - 1) ∷ width 1 (last - 1) ∷ []

abbrev pub each : ℕ → List ℕ
each w = w ∷ w ∷ w ∷ w ∷ []

-- W and the bytes of a file, by its sizes; and of two with one column, one payslip and these p + n
abbrev pub measured : ℕ → ℕ → ℕ → List ℕ
measured p q n = answered (extent_answer edition1 p q n)

abbrev pub files : ℕ → ℕ → List ℕ
files first last = measured 1 1 (first - 1) ++ measured 1 1 (last - 1)

-- W as a header states it
abbrev pub stated : List ℕ → List ℕ
stated file = width_stated edition1 file ∷ []

unfoldable pub widths : List Row
unfolding definitions width_by_cases extent_answer
widths =
    -- the fourteen ranges (Spec 5.2)
    ends 1 1 gives each 1
    ∷ ends 2 3 gives each 2
    ∷ ends 4 7 gives each 3
    ∷ ends 8 15 gives each 4
    ∷ ends 16 31 gives each 5
    ∷ ends 32 63 gives each 6
    ∷ ends 64 127 gives each 7
    ∷ ends 128 255 gives each 8
    ∷ ends 256 511 gives each 9
    ∷ ends 512 1023 gives each 10
    ∷ ends 1024 2047 gives each 11
    ∷ ends 2048 4095 gives each 12
    ∷ ends 4096 8191 gives each 13
    ∷ ends 8192 16383 gives each 14
    -- no case (Spec 5.2)
    ∷ (width_by_cases 0 ∷ width_by_cases 16384 ∷ []) gives (0 ∷ 0 ∷ [])
    -- files there; with one column p + n is 16,001 at most (Spec 5.3, 7.6)
    ∷ files 1 1 gives (0 ∷ 1 ∷ 4 ∷ 0 ∷ 1 ∷ 4 ∷ [])
    ∷ files 2 3 gives (0 ∷ 2 ∷ 5 ∷ 0 ∷ 2 ∷ 5 ∷ [])
    ∷ files 4 7 gives (0 ∷ 3 ∷ 7 ∷ 0 ∷ 3 ∷ 9 ∷ [])
    ∷ files 8 15 gives (0 ∷ 4 ∷ 11 ∷ 0 ∷ 4 ∷ 18 ∷ [])
    ∷ files 16 31 gives (0 ∷ 5 ∷ 23 ∷ 0 ∷ 5 ∷ 42 ∷ [])
    ∷ files 32 63 gives (0 ∷ 6 ∷ 51 ∷ 0 ∷ 6 ∷ 98 ∷ [])
    ∷ files 64 127 gives (0 ∷ 7 ∷ 115 ∷ 0 ∷ 7 ∷ 225 ∷ [])
    ∷ files 128 255 gives (0 ∷ 8 ∷ 259 ∷ 0 ∷ 8 ∷ 513 ∷ [])
    ∷ files 256 511 gives (0 ∷ 9 ∷ 579 ∷ 0 ∷ 9 ∷ 1153 ∷ [])
    ∷ files 512 1023 gives (0 ∷ 10 ∷ 1283 ∷ 0 ∷ 10 ∷ 2560 ∷ [])
    ∷ files 1024 2047 gives (0 ∷ 11 ∷ 2819 ∷ 0 ∷ 11 ∷ 5632 ∷ [])
    ∷ files 2048 4095 gives (0 ∷ 12 ∷ 6146 ∷ 0 ∷ 12 ∷ 12287 ∷ [])
    ∷ files 4096 8191 gives (0 ∷ 13 ∷ 13314 ∷ 0 ∷ 13 ∷ 26623 ∷ [])
    ∷ files 8192 16001 gives (0 ∷ 14 ∷ 28674 ∷ 0 ∷ 14 ∷ 56006 ∷ [])
    -- several payslips, and as many as there may be: no bit to fill up, 4 of them, and the longest file (Spec 5.4, 7.6)
    ∷ measured 1 4 0 gives (0 ∷ 1 ∷ 4 ∷ [])
    ∷ measured 1 64 0 gives (0 ∷ 1 ∷ 12 ∷ [])
    ∷ measured 16 64 16000 gives (0 ∷ 14 ∷ 56116 ∷ [])
    -- sizes that no file has (Spec 7.6, 10.1), and 1 before 4 (Spec 10.2)
    ∷ measured 0 1 0 gives (1 ∷ 0 ∷ [])
    ∷ measured 17 1 0 gives (1 ∷ 0 ∷ [])
    ∷ measured 1 0 0 gives (1 ∷ 0 ∷ [])
    ∷ measured 1 65 0 gives (1 ∷ 0 ∷ [])
    ∷ measured 16 64 16001 gives (4 ∷ 0 ∷ [])
    ∷ measured 17 1 16001 gives (1 ∷ 0 ∷ [])
    -- W by p alone, on both sides of ends, beside the rows of `Files` for 1, 3 and 4 (Spec 5.1)
    ∷ file_of edition1 2 [] (2 ∷ []) gives (0x11 ∷ 0x00 ∷ 0x00 ∷ 0x08 ∷ [])
    ∷ file_of edition1 7 [] (7 ∷ []) gives (0x16 ∷ 0x00 ∷ 0x00 ∷ 0x0e ∷ [])
    ∷ file_of edition1 8 [] (8 ∷ []) gives (0x17 ∷ 0x00 ∷ 0x00 ∷ 0x08 ∷ [])
    ∷ file_of edition1 15 [] (15 ∷ []) gives (0x1e ∷ 0x00 ∷ 0x00 ∷ 0x0f ∷ [])
    ∷ file_of edition1 16 [] (16 ∷ []) gives (0x1f ∷ 0x00 ∷ 0x00 ∷ 0x08 ∷ 0x00 ∷ [])
    -- and by p and n: 7 and 8, 15 and 16
    ∷ file_of edition1 5 (by 5 5 ∷ by 6 1 ∷ []) (7 ∷ []) gives (0x14 ∷ 0x00 ∷ 0x00 ∷ 0x2b ∷ 0x71 ∷ 0xe0 ∷ [])
    ∷ file_of edition1 5 (by 5 5 ∷ by 6 1 ∷ by 7 7 ∷ []) (8 ∷ []) gives (0x14 ∷ 0x00 ∷ 0x00 ∷ 0x35 ∷ 0x56 ∷ 0x17 ∷ 0x78 ∷ [])
    ∷ file_of edition1 13 (by 13 13 ∷ by 14 1 ∷ []) (15 ∷ []) gives (0x1c ∷ 0x00 ∷ 0x00 ∷ 0x2d ∷ 0xde ∷ 0x1f ∷ [])
    ∷ file_of edition1 13 (by 13 13 ∷ by 14 1 ∷ by 15 2 ∷ []) (16 ∷ [])
    gives (0x1c ∷ 0x00 ∷ 0x00 ∷ 0x36 ∷ 0xb5 ∷ 0xc1 ∷ 0x78 ∷ 0xa0 ∷ [])
    -- W from headers: case J's, with p + n = 12; p = 7 and 8 without steps; p = 1 with n = 7; the largest p and n
    ∷ stated file_j gives (4 ∷ [])
    ∷ stated (0x16 ∷ 0x00 ∷ 0x00 ∷ 0x0e ∷ []) gives (3 ∷ [])
    ∷ stated (0x17 ∷ 0x00 ∷ 0x00 ∷ 0x08 ∷ []) gives (4 ∷ [])
    ∷ stated (0x10 ∷ 0x00 ∷ 0x00 ∷ 0x70 ∷ []) gives (4 ∷ [])
    ∷ stated (0x1f ∷ 0xff ∷ 0xe8 ∷ 0x00 ∷ []) gives (14 ∷ [])
    ∷ []

pub widths_hold : (d : Row) (k : ℕ) → k < length widths → Holds (get_or widths k d)
unfolding widths
widths_hold d k h = rows_hold widths d tt k h
