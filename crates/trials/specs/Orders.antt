-- Inputs with two faults at once, one for each two neighbours in a call's order (Spec 10.2): the answer is the first of the two.
use Rattle.std.specs.Prelude.{List, [], ◌∷◌, ◌++◌, ℕ, ◌+◌, ◌<◌, length, get_or, replicate}
use Rattle.chain.specs.Chain.{most_amount, most_steps, by, pairs}
use Rattle.chain.specs.declared.Step.{Step}
use Rattle.verify.specs.Verify.{verify_answer}
use Rattle.run.specs.Run.{run_answer}
use Rattle.layout.specs.Layout.{edition1}
use Rattle.layout.specs.File.{longest_file, file_of, write_answer, read_answer}
use Rattle.compile.specs.Compile.{compile_answer}
use Rattle.choose.specs.Choose.{choice}
use Rattle.listing.specs.Listing.{listing}
use Rattle.trials.specs.Rows.{Row, ◌gives◌, Holds, rows_hold, answered, chosen, definitions}
use Rattle.trials.specs.Trials.{file_a, doublings}
use Rattle.trials.specs.Refusals.{choosing, refused_line}

-- one step more than a chain may have, all the same
abbrev pub too_many : ℕ → ℕ → List Step
too_many a b = replicate (most_steps + 1) (by a b)

-- case H's file before its last three fields: p = 1, q = 1, 32 squarings in a row, so that step 32 makes 2^32
abbrev pub start_h : List ℕ
start_h =
    0x10 ∷ 0x00 ∷ 0x02 ∷ 0x00 ∷ 0x41 ∷ 0x08 ∷ 0x20 ∷ 0xc3 ∷ 0x10 ∷ 0x41 ∷ 0x45 ∷ 0x18 ∷ 0x61 ∷ 0xc7 ∷ 0x20 ∷ 0x82 ∷ 0x49 ∷ 0x28 ∷ 0xa2
    ∷ 0xcb ∷ 0x30 ∷ 0xc3 ∷ 0x4d ∷ 0x38 ∷ 0xe3 ∷ 0xcf ∷ 0x41 ∷ 0x04 ∷ 0x51 ∷ 0x49 ∷ 0x24 ∷ 0xd3 ∷ 0x51 ∷ 0x45 ∷ 0x55 ∷ 0x59 ∷ 0x65 ∷ 0xd7
    ∷ 0x61 ∷ 0x86 ∷ 0x59 ∷ 0x69 ∷ 0xa6 ∷ 0xdb ∷ 0x71 ∷ 0xc7 ∷ 0x5d ∷ 0x79 ∷ 0xe7 ∷ 0xdf ∷ []

-- with output 33; the same with the lowest filling bit set; with output 34
abbrev pub file_h : List ℕ
file_h = start_h ++ 0x82 ∷ 0x08 ∷ 0x40 ∷ []

abbrev pub filled_h : List ℕ
filled_h = start_h ++ 0x82 ∷ 0x08 ∷ 0x41 ∷ []

abbrev pub outside_h : List ℕ
outside_h = start_h ++ 0x82 ∷ 0x08 ∷ 0x80 ∷ []

-- case A's file with a filling bit set; with step 1 (2,0) too; with step 1 (2,0) and output 7
abbrev pub filled_a : List ℕ
filled_a = 0x11 ∷ 0x00 ∷ 0x00 ∷ 0x34 ∷ 0x5b ∷ 0x86 ∷ 0x81 ∷ []

abbrev pub filled_zero_a : List ℕ
filled_zero_a = 0x11 ∷ 0x00 ∷ 0x00 ∷ 0x34 ∷ 0x1b ∷ 0x86 ∷ 0x81 ∷ []

abbrev pub zero_outside_a : List ℕ
zero_outside_a = 0x11 ∷ 0x00 ∷ 0x00 ∷ 0x34 ∷ 0x1b ∷ 0x87 ∷ 0x80 ∷ []

unfoldable pub orders : List Row
unfolding definitions
orders =
    -- compile: 1, 2, 3, 4, 5 (Spec 10.2). Straus with p = 3 and k = 5 has 32,764 steps; partition 8 of 16 amounts of 32 bits has 16,367
    answered (compile_answer 0 1 (1 ∷ []) 1 1 3 1) gives (1 ∷ 0 ∷ [])
    ∷ answered (compile_answer 1 0 (1 ∷ []) 1 1 3 1) gives (1 ∷ 0 ∷ [])
    ∷ answered (compile_answer 1 1 [] 4 1 3 1) gives (2 ∷ 0 ∷ [])
    ∷ answered (compile_answer 3 1 (1 ∷ 1 ∷ 1 ∷ []) 1 5 40000 1) gives (3 ∷ 0 ∷ [])
    ∷ answered (compile_answer 16 1 (replicate 16 most_amount) 3 8 0 0) gives (4 ∷ 0 ∷ [])
    -- write: 1, 4, steps, 12, 5 (Spec 10.2)
    ∷ answered (write_answer edition1 0 (too_many 1 1) (0 ∷ []) 9) gives (1 ∷ 0 ∷ [])
    ∷ answered (write_answer edition1 1 (too_many 1 1) [] 9) gives (1 ∷ 0 ∷ [])
    ∷ answered (write_answer edition1 1 (too_many 1 0) (0 ∷ []) 9) gives (4 ∷ 0 ∷ [])
    ∷ answered (write_answer edition1 1 (pairs (2 ∷ 1 ∷ [])) (3 ∷ []) 9) gives (10 ∷ 1 ∷ [])
    ∷ answered (write_answer edition1 1 [] (2 ∷ []) 0) gives (12 ∷ 1 ∷ [])
    -- read: 6, 7, 4, 6 again, 5, 8, steps, 12 (Spec 10.2)
    ∷ answered (read_answer edition1 (0x20 ∷ 0x00 ∷ 0x00 ∷ []) 3 1) gives (6 ∷ 0 ∷ [])
    ∷ answered (read_answer edition1 (0x20 ∷ 0x03 ∷ 0xe8 ∷ 0x10 ∷ []) 3 1) gives (7 ∷ 0 ∷ [])
    ∷ answered (read_answer edition1 (0x10 ∷ 0x03 ∷ 0xe8 ∷ 0x10 ∷ []) 3 1) gives (4 ∷ 0 ∷ [])
    ∷ answered (read_answer edition1 (file_a ++ 0 ∷ []) 0 0) gives (6 ∷ 0 ∷ [])
    ∷ answered (read_answer edition1 filled_a 3 0) gives (5 ∷ 0 ∷ [])
    ∷ answered (read_answer edition1 filled_a 2 1) gives (5 ∷ 0 ∷ [])
    ∷ answered (read_answer edition1 filled_zero_a 3 1) gives (8 ∷ 0 ∷ [])
    ∷ answered (read_answer edition1 zero_outside_a 3 1) gives (9 ∷ 1 ∷ [])
    -- check: 1, 4, 2, steps, 12, 5, 13, 14 (Spec 10.2)
    ∷ answered (verify_answer 0 (too_many 1 1) (0 ∷ []) [] 0) gives (1 ∷ 0 ∷ [])
    ∷ answered (verify_answer 1 (too_many 1 1) (0 ∷ []) [] 0) gives (4 ∷ 0 ∷ [])
    ∷ answered (verify_answer 1 (pairs (2 ∷ 1 ∷ [])) (0 ∷ []) [] 9) gives (2 ∷ 0 ∷ [])
    ∷ answered (verify_answer 1 (pairs (2 ∷ 1 ∷ [])) (3 ∷ []) (0 ∷ []) 9) gives (10 ∷ 1 ∷ [])
    ∷ answered (verify_answer 1 [] (2 ∷ []) (0 ∷ []) 0) gives (12 ∷ 1 ∷ [])
    ∷ answered (verify_answer 1 (doublings 32) (0 ∷ []) (0 ∷ []) 33) gives (5 ∷ 0 ∷ [])
    ∷ answered (verify_answer 1 (doublings 32) (0 ∷ []) (1 ∷ []) 34) gives (13 ∷ 32 ∷ [])
    -- run: 1, 4, 15, 16, steps, 12, 5 (Spec 10.2)
    ∷ answered (run_answer 0 (too_many 1 1) (0 ∷ []) 7 [] 9 9) gives (1 ∷ 0 ∷ [])
    ∷ answered (run_answer 1 (too_many 1 1) (0 ∷ []) 0 (0 ∷ []) 9 9) gives (4 ∷ 0 ∷ [])
    ∷ answered (run_answer 1 [] (0 ∷ []) 0 [] 9 9) gives (15 ∷ 0 ∷ [])
    ∷ answered (run_answer 1 (pairs (2 ∷ 1 ∷ [])) (0 ∷ []) 7 (7 ∷ []) 9 9) gives (16 ∷ 0 ∷ [])
    ∷ answered (run_answer 1 (pairs (2 ∷ 1 ∷ [])) (0 ∷ []) 7 [] 9 9) gives (16 ∷ 0 ∷ [])
    ∷ answered (run_answer 1 (pairs (2 ∷ 1 ∷ [])) (3 ∷ []) 7 (3 ∷ []) 9 9) gives (10 ∷ 1 ∷ [])
    ∷ answered (run_answer 1 [] (2 ∷ []) 7 (3 ∷ []) 0 0) gives (12 ∷ 1 ∷ [])
    -- steps: of one 9, 10, 11; of two the first (Spec 10.2)
    ∷ answered (write_answer edition1 1 (pairs (2 ∷ 0 ∷ [])) (0 ∷ []) 9) gives (9 ∷ 1 ∷ [])
    ∷ answered (write_answer edition1 1 (pairs (0 ∷ 1 ∷ [])) (0 ∷ []) 9) gives (9 ∷ 1 ∷ [])
    ∷ answered (write_answer edition1 1 (pairs (1 ∷ 2 ∷ [])) (0 ∷ []) 9) gives (10 ∷ 1 ∷ [])
    ∷ answered (write_answer edition1 2 (pairs (1 ∷ 2 ∷ 4 ∷ 1 ∷ 1 ∷ 0 ∷ [])) (0 ∷ []) 9) gives (11 ∷ 1 ∷ [])
    -- the chooser: 1, 2, 5, then the files (Spec 8)
    ∷ choosing 0 1 (1 ∷ []) file_a file_a gives (0 ∷ 1 ∷ 0 ∷ [])
    ∷ chosen (choice 0 1 [] file_a file_a 0 0 0) gives (0 ∷ 1 ∷ 0 ∷ [])
    ∷ chosen (choice 2 1 (1 ∷ 2 ∷ 3 ∷ []) file_a file_a 0 0 0) gives (0 ∷ 2 ∷ 0 ∷ [])
    ∷ chosen (choice 2 1 (3 ∷ 2 ∷ []) [] [] 0 0 0) gives (0 ∷ 5 ∷ 0 ∷ [])
    -- a file in the chooser: read, then 14 with place 0 for another p or q, then the check (Spec 8)
    ∷ file_of edition1 1 (doublings 32) (33 ∷ []) gives file_h
    ∷ choosing 1 1 (1 ∷ []) filled_a filled_a gives (0 ∷ 8 ∷ 0 ∷ [])
    ∷ choosing 1 2 (1 ∷ 1 ∷ []) filled_a filled_a gives (0 ∷ 8 ∷ 0 ∷ [])
    ∷ choosing 2 1 (1 ∷ 1 ∷ []) file_h file_h gives (0 ∷ 14 ∷ 0 ∷ [])
    ∷ choosing 1 2 (1 ∷ 1 ∷ []) file_h file_h gives (0 ∷ 14 ∷ 0 ∷ [])
    ∷ choosing 1 1 (1 ∷ []) file_h file_h gives (0 ∷ 13 ∷ 32 ∷ [])
    -- the lister: 6 for too many bytes, then read, then 13 (Spec 9)
    ∷ listing (0x20 ∷ replicate longest_file 0) gives refused_line (54 ∷ [])
    ∷ listing filled_h gives refused_line (56 ∷ [])
    ∷ listing outside_h gives refused_line (49 ∷ 50 ∷ [])
    ∷ listing file_h gives refused_line (49 ∷ 51 ∷ [])
    ∷ []

pub orders_hold : (d : Row) (k : ℕ) → k < length orders → Holds (get_or orders k d)
unfolding orders
orders_hold d k h = rows_hold orders d tt k h
