-- Files and their listings byte for byte: several payslips, the ends of the fields' widths, the filling; and what the run makes of several outputs.
use Rattle.std.specs.Prelude.{List, [], ◌∷◌, ◌++◌, ℕ, ◌+◌, ◌<◌, length, get_or, replicate}
use Rattle.chain.specs.Chain.{by, pairs}
use Rattle.digits.specs.Range.{list_to}
use Rattle.residue.specs.Residue.{figure}
use Rattle.run.specs.Run.{run_answer, run_values, run_figures}
use Rattle.layout.specs.Layout.{edition1}
use Rattle.layout.specs.File.{file_of, write_answer, write_bytes, read_answer, read_steps, read_outputs}
use Rattle.decimal.specs.Decimal.{blank, decimal}
use Rattle.listing.specs.Listing.{listing}
use Rattle.trials.specs.Rows.{Row, ◌gives◌, Holds, rows_hold, answered, definitions}
use Rattle.trials.specs.Trials.{nines, ones}

-- case J by Yao 1: p = 3, q = 4, n = 9, and its file, whose fields have 4 bits
abbrev pub steps_j : List ℕ
steps_j = 1 ∷ 1 ∷ 2 ∷ 2 ∷ 3 ∷ 3 ∷ 4 ∷ 1 ∷ 7 ∷ 6 ∷ 5 ∷ 1 ∷ 4 ∷ 1 ∷ 10 ∷ 5 ∷ 11 ∷ 3 ∷ []

abbrev pub outputs_j : List ℕ
outputs_j = 8 ∷ 9 ∷ 6 ∷ 12 ∷ []

abbrev pub file_j : List ℕ
file_j =
    0x12 ∷ 0x0c ∷ 0x00 ∷ 0x91 ∷ 0x12 ∷ 0x23 ∷ 0x34 ∷ 0x17 ∷ 0x65 ∷ 0x14 ∷ 0x1a ∷ 0x5b ∷ 0x38 ∷ 0x96 ∷ 0xc0 ∷ []

-- a line of numbers below 10
abbrev pub digits_line : List ℕ → List ℕ
digits_line [] = 10 ∷ []
digits_line (d ∷ []) = (48 + d) ∷ 10 ∷ []
digits_line (d ∷ e ∷ r) = (48 + d) ∷ 32 ∷ digits_line (e ∷ r)

unfoldable pub files : List Row
unfolding definitions
files =
    -- case J: written, with two bytes more than it needs, and read, with more room than it needs (Spec 5.1 to 5.3, 10.5, 10.6)
    (answered (write_answer edition1 3 (pairs steps_j) outputs_j 17) ++ write_bytes edition1 3 (pairs steps_j) outputs_j (nines 17))
    gives (0 ∷ 15 ∷ file_j ++ nines 2)
    ∷ (answered (read_answer edition1 file_j 10 5) ++ read_steps edition1 file_j 5 (nines 20) ++ read_outputs edition1 file_j 10 (nines 5))
    gives (0 ∷ 3 ∷ 4 ∷ 9 ∷ 3 ∷ 6 ∷ steps_j ++ 9 ∷ 9 ∷ outputs_j ++ 9 ∷ [])
    -- and listed: 3 4 9, then 1 3 0 2, and so on (Spec 9)
    ∷ listing file_j
    gives (digits_line (3 ∷ 4 ∷ 9 ∷ []) ++ digits_line (1 ∷ 3 ∷ 0 ∷ 2 ∷ []) ++ digits_line (2 ∷ 1 ∷ 2 ∷ 0 ∷ [])
    ++ digits_line (3 ∷ 0 ∷ 0 ∷ 2 ∷ []) ++ digits_line (4 ∷ 3 ∷ 2 ∷ 1 ∷ []))
    -- case I's file listed: 1 1 62 and 1 4294967295 (Spec 9, 11)
    ∷ listing (file_of edition1 1 (ones 31) (63 ∷ []))
    gives (49 ∷ 32 ∷ 49 ∷ 32 ∷ 54 ∷ 50 ∷ 10 ∷ 49 ∷ 32 ∷ 52 ∷ 50 ∷ 57 ∷ 52 ∷ 57 ∷ 54 ∷ 55 ∷ 50 ∷ 57 ∷ 53 ∷ 10 ∷ [])
    -- numbers with zeros in them and at their end, and 0 itself; ten payslips of one amount 0 (Spec 9)
    ∷ (decimal 0 ++ blank ∷ decimal 10 ++ blank ∷ decimal 2005 ++ blank ∷ decimal 700)
    gives (48 ∷ 32 ∷ 49 ∷ 48 ∷ 32 ∷ 50 ∷ 48 ∷ 48 ∷ 53 ∷ 32 ∷ 55 ∷ 48 ∷ 48 ∷ [])
    ∷ listing (0x10 ∷ 0x24 ∷ 0x00 ∷ 0x00 ∷ 0x00 ∷ [])
    gives (49 ∷ 32 ∷ 49 ∷ 48 ∷ 32 ∷ 48 ∷ 10 ∷ digits_line (1 ∷ 0 ∷ []) ++ digits_line (2 ∷ 0 ∷ []) ++ digits_line (3 ∷ 0 ∷ [])
    ++ digits_line (4 ∷ 0 ∷ []) ++ digits_line (5 ∷ 0 ∷ []) ++ digits_line (6 ∷ 0 ∷ []) ++ digits_line (7 ∷ 0 ∷ [])
    ++ digits_line (8 ∷ 0 ∷ []) ++ digits_line (9 ∷ 0 ∷ []) ++ 49 ∷ 48 ∷ 32 ∷ 48 ∷ 10 ∷ [])
    -- W is the bit length of p + n (Spec 5.2): 1, 2 and 3 bits by p alone, 2 and 3 by p and n
    ∷ file_of edition1 1 [] (1 ∷ []) gives (0x10 ∷ 0x00 ∷ 0x00 ∷ 0x08 ∷ [])
    ∷ file_of edition1 3 [] (3 ∷ []) gives (0x12 ∷ 0x00 ∷ 0x00 ∷ 0x0c ∷ [])
    ∷ file_of edition1 4 [] (4 ∷ []) gives (0x13 ∷ 0x00 ∷ 0x00 ∷ 0x08 ∷ [])
    ∷ file_of edition1 2 (by 1 1 ∷ []) (3 ∷ []) gives (0x11 ∷ 0x00 ∷ 0x00 ∷ 0x15 ∷ 0xc0 ∷ [])
    ∷ file_of edition1 2 (by 1 1 ∷ by 2 1 ∷ []) (4 ∷ []) gives (0x11 ∷ 0x00 ∷ 0x00 ∷ 0x22 ∷ 0x51 ∷ 0x80 ∷ [])
    -- p and q at their highest: 64 outputs 16, of 5 bits each, and 4 filling bits (Spec 5.1)
    ∷ file_of edition1 16 [] (replicate 64 16)
    gives (0x1f ∷ 0xfc ∷ 0x00 ∷ 0x08 ∷ 0x42 ∷ 0x10 ∷ 0x84 ∷ 0x21 ∷ 0x08 ∷ 0x42 ∷ 0x10 ∷ 0x84 ∷ 0x21 ∷ 0x08 ∷ 0x42 ∷ 0x10 ∷ 0x84 ∷ 0x21
    ∷ 0x08 ∷ 0x42 ∷ 0x10 ∷ 0x84 ∷ 0x21 ∷ 0x08 ∷ 0x42 ∷ 0x10 ∷ 0x84 ∷ 0x21 ∷ 0x08 ∷ 0x42 ∷ 0x10 ∷ 0x84 ∷ 0x21 ∷ 0x08 ∷ 0x42 ∷ 0x10
    ∷ 0x84 ∷ 0x21 ∷ 0x08 ∷ 0x42 ∷ 0x10 ∷ 0x84 ∷ 0x21 ∷ 0x00 ∷ [])
    -- no filling bit where the fields fill the last byte; each of case A's seven is looked at (Spec 5.3)
    ∷ answered (read_answer edition1 (0x10 ∷ 0x0c ∷ 0x00 ∷ 0x0f ∷ []) 0 4) gives (0 ∷ 1 ∷ 4 ∷ 0 ∷ 0 ∷ 0 ∷ [])
    ∷ answered (read_answer edition1 (0x11 ∷ 0x00 ∷ 0x00 ∷ 0x34 ∷ 0x5b ∷ 0x86 ∷ 0xc0 ∷ []) 3 1) gives (8 ∷ 0 ∷ [])
    ∷ answered (read_answer edition1 (0x11 ∷ 0x00 ∷ 0x00 ∷ 0x34 ∷ 0x5b ∷ 0x86 ∷ 0x88 ∷ []) 3 1) gives (8 ∷ 0 ∷ [])
    -- an odd last number belongs to no step (Spec 2.6)
    ∷ file_of edition1 2 (pairs (1 ∷ 1 ∷ 7 ∷ [])) (3 ∷ []) gives (0x11 ∷ 0x00 ∷ 0x00 ∷ 0x15 ∷ 0xc0 ∷ [])
    -- the run: a value for each step, a figure for each output in order, and no more cells (Spec 6)
    ∷ (answered (run_answer 3 (pairs steps_j) outputs_j 10000 (3 ∷ 5 ∷ 7 ∷ []) 14 5)
    ++ run_values 3 (pairs steps_j) outputs_j 10000 (3 ∷ 5 ∷ 7 ∷ []) 5 (nines 14)
    ++ run_figures 3 (pairs steps_j) outputs_j 10000 (3 ∷ 5 ∷ 7 ∷ []) 14 (nines 5))
    gives (0 ∷ 9 ∷ 3 ∷ 6 ∷ 1 ∷ 3 ∷ 5 ∷ 7 ∷ 9 ∷ 25 ∷ 49 ∷ 27 ∷ 1323 ∷ 75 ∷ 27 ∷ 675 ∷ 4725 ∷ 9 ∷ 1323 ∷ 75 ∷ 49 ∷ 4725 ∷ 9 ∷ [])
    -- products of residues that 32 bits do not hold: (m − 1)² modulo m is 1 (Spec 6)
    ∷ run_values 1 (by 1 1 ∷ []) (2 ∷ []) 4294967295 (4294967294 ∷ []) 1 (nines 3) gives (1 ∷ 4294967294 ∷ 1 ∷ [])
    -- the figures of case J (Spec 1.3, 11)
    ∷ list_to 4 (figure 3 10000 (3 ∷ 5 ∷ 7 ∷ []) (3 ∷ 0 ∷ 2 ∷ 1 ∷ 2 ∷ 0 ∷ 0 ∷ 0 ∷ 2 ∷ 3 ∷ 2 ∷ 1 ∷ [])) gives (1323 ∷ 75 ∷ 49 ∷ 4725 ∷ [])
    -- a power with amount 0 is 1, also of base 0; with another amount it is 0 (Spec 1.3)
    ∷ (figure 2 7 (0 ∷ 3 ∷ []) (0 ∷ 2 ∷ 1 ∷ 2 ∷ []) 0 ∷ figure 2 7 (0 ∷ 3 ∷ []) (0 ∷ 2 ∷ 1 ∷ 2 ∷ []) 1 ∷ []) gives (2 ∷ 0 ∷ [])
    ∷ []

pub files_hold : (d : Row) (k : ℕ) → k < length files → Holds (get_or files k d)
unfolding files
files_hold d k h = rows_hold files d tt k h
