-- One small input for each refusal (Spec 11), each with its number and place, and the lent slices as they were (Spec 10.1, 10.5).
use Rattle.std.specs.Prelude.{List, [], ◌∷◌, ◌++◌, ℕ, ◌<◌, length, get_or, replicate}
use Rattle.chain.specs.Chain.{pairs}
use Rattle.verify.specs.Verify.{verify_answer, verify_scratch}
use Rattle.run.specs.Run.{run_answer, run_values, run_figures}
use Rattle.layout.specs.Layout.{edition1}
use Rattle.layout.specs.File.{write_answer, write_bytes, read_answer, read_steps, read_outputs}
use Rattle.compile.specs.Compile.{compile_answer, compile_steps, compile_outputs}
use Rattle.choose.specs.Choose.{choice}
use Rattle.listing.specs.Listing.{listing}
use Rattle.trials.specs.Rows.{Row, ◌gives◌, Holds, rows_hold, answered, chosen, definitions}
use Rattle.trials.specs.Trials.{nines, file_a, sheet_a, steps_a, doublings}

-- compile into three pairs and one output
abbrev pub compiling : ℕ → ℕ → List ℕ → ℕ → ℕ → List ℕ
compiling p q amounts method k =
    answered (compile_answer p q amounts method k 3 1)
    ++ compile_steps p q amounts method k 1 (nines 6)
    ++ compile_outputs p q amounts method k 3 (nines 1)

-- write into four bytes
abbrev pub writing : ℕ → List ℕ → List ℕ → List ℕ
writing p steps outputs = answered (write_answer edition1 p (pairs steps) outputs 4) ++ write_bytes edition1 p (pairs steps) outputs (nines 4)

-- read into three pairs and one output
abbrev pub reading : List ℕ → List ℕ
reading bytes = answered (read_answer edition1 bytes 3 1) ++ read_steps edition1 bytes 1 (nines 6) ++ read_outputs edition1 bytes 3 (nines 1)

-- check one output, with six numbers of scratch
abbrev pub checking : ℕ → List ℕ → ℕ → List ℕ → List ℕ
checking p steps output amounts =
    answered (verify_answer p (pairs steps) (output ∷ []) amounts 6) ++ verify_scratch p (pairs steps) (output ∷ []) amounts (nines 6)

-- run to one figure, with six values
abbrev pub running : ℕ → List ℕ → ℕ → ℕ → List ℕ → List ℕ
running p steps output m bases =
    answered (run_answer p (pairs steps) (output ∷ []) m bases 6 1)
    ++ run_values p (pairs steps) (output ∷ []) m bases 1 (nines 6)
    ++ run_figures p (pairs steps) (output ∷ []) m bases 6 (nines 1)

-- choose for case A's sheet, with scratch of full size
abbrev pub choosing : ℕ → ℕ → List ℕ → List ℕ → List ℕ → List ℕ
choosing p q amounts a b = chosen (choice p q amounts a b 16000 64 16017)

-- "refused " and a number's digits
abbrev pub refused_line : List ℕ → List ℕ
refused_line number = 114 ∷ 101 ∷ 102 ∷ 117 ∷ 115 ∷ 101 ∷ 100 ∷ 32 ∷ number ++ 10 ∷ []

-- edition 1, p = 1, q = 1, n = 0, output 1 (W = 1)
abbrev pub file_one : List ℕ
file_one = 0x10 ∷ 0x00 ∷ 0x00 ∷ 0x08 ∷ []

unfoldable pub refusals : List Row
unfolding definitions
refusals =
    -- 1: p = 0, for each call; q too large
    compiling 0 1 [] 1 1 gives (1 ∷ 0 ∷ nines 7)
    ∷ compiling 1 65 [] 1 1 gives (1 ∷ 0 ∷ nines 7)
    ∷ writing 0 [] (0 ∷ []) gives (1 ∷ 0 ∷ nines 4)
    ∷ writing 17 [] (0 ∷ []) gives (1 ∷ 0 ∷ nines 4)
    ∷ checking 0 [] 0 [] gives (1 ∷ 0 ∷ nines 6)
    ∷ running 0 [] 0 7 [] gives (1 ∷ 0 ∷ nines 7)
    ∷ choosing 0 1 [] file_a file_a gives (0 ∷ 1 ∷ 0 ∷ [])
    -- 2: p = 2, q = 1, three amounts
    ∷ compiling 2 1 (1 ∷ 2 ∷ 3 ∷ []) 1 1 gives (2 ∷ 0 ∷ nines 7)
    ∷ checking 2 [] 0 (1 ∷ 2 ∷ 3 ∷ []) gives (2 ∷ 0 ∷ nines 6)
    ∷ choosing 2 1 (1 ∷ 2 ∷ 3 ∷ []) file_a file_a gives (0 ∷ 2 ∷ 0 ∷ [])
    -- 3: Straus, p = 11, k = 1; a parameter 0; a method that there is not
    ∷ compiling 11 1 (replicate 11 1) 1 1 gives (3 ∷ 0 ∷ nines 7)
    ∷ compiling 1 1 (1 ∷ []) 1 6 gives (3 ∷ 0 ∷ nines 7)
    ∷ compiling 1 1 (1 ∷ []) 2 0 gives (3 ∷ 0 ∷ nines 7)
    ∷ compiling 1 1 (1 ∷ []) 3 9 gives (3 ∷ 0 ∷ nines 7)
    ∷ compiling 1 1 (1 ∷ []) 4 1 gives (3 ∷ 0 ∷ nines 7)
    -- 4: n = 16,001, as a file says it, before its length is looked at
    ∷ reading (0x10 ∷ 0x03 ∷ 0xe8 ∷ 0x10 ∷ []) gives (4 ∷ 0 ∷ nines 7)
    -- 5: two pairs for case A; too few bytes, pairs, numbers of scratch, values; the chooser's scratch
    ∷ (answered (compile_answer 2 1 sheet_a 1 1 2 1) ++ compile_steps 2 1 sheet_a 1 1 1 (nines 5)) gives (5 ∷ 0 ∷ nines 5)
    ∷ writing 2 steps_a (5 ∷ []) gives (5 ∷ 0 ∷ nines 4)
    ∷ (answered (read_answer edition1 file_a 2 1) ++ read_steps edition1 file_a 1 (nines 5)) gives (5 ∷ 0 ∷ nines 5)
    ∷ (answered (read_answer edition1 file_a 3 0) ++ read_outputs edition1 file_a 3 []) gives (5 ∷ 0 ∷ [])
    ∷ (answered (verify_answer 2 (pairs steps_a) (5 ∷ []) sheet_a 5) ++ verify_scratch 2 (pairs steps_a) (5 ∷ []) sheet_a (nines 5)) gives (5 ∷ 0 ∷ nines 5)
    ∷ (answered (run_answer 2 (pairs steps_a) (5 ∷ []) 7 (3 ∷ 5 ∷ []) 5 1) ++ run_values 2 (pairs steps_a) (5 ∷ []) 7 (3 ∷ 5 ∷ []) 1 (nines 5)) gives (5 ∷ 0 ∷ nines 5)
    ∷ chosen (choice 2 1 sheet_a file_a file_a 16000 64 16016) gives (0 ∷ 5 ∷ 0 ∷ [])
    -- 6: no bytes; a byte more than the stated length; the listing
    ∷ reading [] gives (6 ∷ 0 ∷ nines 7)
    ∷ reading (file_a ++ 0 ∷ []) gives (6 ∷ 0 ∷ nines 7)
    ∷ listing [] gives refused_line (54 ∷ [])
    -- 7: 20 00 00 00
    ∷ reading (0x20 ∷ 0x00 ∷ 0x00 ∷ 0x00 ∷ []) gives (7 ∷ 0 ∷ nines 7)
    -- 8: 11 00 00 34 5B 86 81
    ∷ reading (0x11 ∷ 0x00 ∷ 0x00 ∷ 0x34 ∷ 0x5b ∷ 0x86 ∷ 0x81 ∷ []) gives (8 ∷ 0 ∷ nines 7)
    -- 9: pair (1,0)
    ∷ writing 1 (1 ∷ 0 ∷ []) (0 ∷ []) gives (9 ∷ 1 ∷ nines 4)
    ∷ checking 1 (1 ∷ 1 ∷ 0 ∷ 2 ∷ []) 0 (0 ∷ []) gives (9 ∷ 2 ∷ nines 6)
    -- 10: p = 1, step 1 is (2,1)
    ∷ writing 1 (2 ∷ 1 ∷ []) (0 ∷ []) gives (10 ∷ 1 ∷ nines 4)
    ∷ running 1 (2 ∷ 1 ∷ []) 0 7 (3 ∷ []) gives (10 ∷ 1 ∷ nines 7)
    -- 11: p = 2, (1,2)
    ∷ writing 2 (1 ∷ 2 ∷ []) (0 ∷ []) gives (11 ∷ 1 ∷ nines 4)
    ∷ checking 2 (1 ∷ 2 ∷ []) 0 (0 ∷ 0 ∷ []) gives (11 ∷ 1 ∷ nines 6)
    -- 12: p = 1, n = 0, output 2; the second of two outputs, in a file
    ∷ writing 1 [] (2 ∷ []) gives (12 ∷ 1 ∷ nines 4)
    ∷ writing 1 [] (1 ∷ 2 ∷ []) gives (12 ∷ 2 ∷ nines 4)
    ∷ running 1 [] 2 7 (3 ∷ []) gives (12 ∷ 1 ∷ nines 7)
    -- 13: p = 1, 32 squarings in a row; the scratch is cleared
    ∷ (answered (verify_answer 1 (doublings 32) (0 ∷ []) (0 ∷ []) 34) ++ verify_scratch 1 (doublings 32) (0 ∷ []) (0 ∷ []) (nines 35)) gives (13 ∷ 32 ∷ replicate 34 0 ++ 9 ∷ [])
    -- 14: case A with output 4; in the chooser also another p or q
    ∷ checking 2 steps_a 4 sheet_a gives (14 ∷ 1 ∷ replicate 6 0)
    ∷ choosing 1 1 (1 ∷ []) file_a file_a gives (0 ∷ 14 ∷ 0 ∷ [])
    -- 15: modulus 0
    ∷ running 1 [] 0 0 (0 ∷ []) gives (15 ∷ 0 ∷ nines 7)
    -- 16: base 7, modulus 7; two bases for p = 1
    ∷ running 1 [] 0 7 (7 ∷ []) gives (16 ∷ 0 ∷ nines 7)
    ∷ running 1 [] 0 7 (1 ∷ 2 ∷ []) gives (16 ∷ 0 ∷ nines 7)
    -- the chooser: a file that passes, the first on equality, the other where the first does not read, and where it has another p
    ∷ choosing 2 1 sheet_a file_a file_a gives (1 ∷ [])
    ∷ choosing 2 1 sheet_a [] file_a gives (2 ∷ [])
    ∷ choosing 1 1 (1 ∷ []) file_a file_one gives (2 ∷ [])
    ∷ choosing 2 1 sheet_a [] file_one gives (0 ∷ 6 ∷ 0 ∷ [])
    ∷ []

pub refusals_hold : (d : Row) (k : ℕ) → k < length refusals → Holds (get_or refusals k d)
unfolding refusals
refusals_hold d k h = rows_hold refusals d tt k h
