-- Both ends of every range, and one past them.
use Rattle.std.specs.Prelude.{List, [], ◌∷◌, ◌++◌, ℕ, ◌+◌, ◌<◌, length, get_or, replicate}
use Rattle.chain.specs.Chain.{most_columns, most_payslips, most_steps, most_amount, by, pairs, flat, legal_rule}
use Rattle.verify.specs.Verify.{verify_answer}
use Rattle.run.specs.Run.{run_answer}
use Rattle.layout.specs.Layout.{edition1}
use Rattle.layout.specs.File.{longest_file, byte_count, write_answer, read_answer}
use Rattle.quote.specs.ByMethod.{chain_of, count}
use Rattle.compile.specs.Compile.{compile_answer}
use Rattle.choose.specs.Choose.{choice, most_scratch}
use Rattle.listing.specs.Listing.{listing}
use Rattle.trials.specs.Rows.{Row, ◌gives◌, Holds, rows_hold, verdict, answered, chosen, definitions}
use Rattle.trials.specs.Trials.{sheet_a, steps_a, file_a, ones}
use Rattle.trials.specs.Refusals.{refused_line}

-- f at each number of a list, one after the other
abbrev pub each : (ℕ → List ℕ) → List ℕ → List ℕ
each f [] = []
each f (x ∷ r) = f x ++ each f r

-- the answers by p or q, where the next refusal in the order is due to something else
module _ (p q : ℕ) where
  -- no amounts: 2
  abbrev pub compile_sized : List ℕ
  compile_sized = answered (compile_answer p q [] 1 1 0 0)

  abbrev pub check_sized : List ℕ
  check_sized = answered (verify_answer p [] (replicate q 0) [] 0)

  abbrev pub choose_sized : List ℕ
  choose_sized = chosen (choice p q [] file_a file_a 0 0 0)

  -- no bytes: 5
  abbrev pub write_sized : List ℕ
  write_sized = answered (write_answer edition1 p [] (replicate q 0) 0)

  -- modulus 0: 15
  abbrev pub run_sized : List ℕ
  run_sized = answered (run_answer p [] (replicate q 0) 0 [] 0 0)

abbrev pub ends : ℕ → List ℕ
ends most = 0 ∷ 1 ∷ most ∷ (most + 1) ∷ []

-- compile of zeros with no room, 5 where the method and its parameter are right
abbrev pub parameter : ℕ → ℕ → ℕ → List ℕ
parameter p method k = answered (compile_answer p 1 (replicate p 0) method k 0 0)

-- Two payslips in 503 inputs, 62 groups of 8 and one of 7, by partition 8: 487 squarings, 62 · 247 + 120 steps of tables and 62 of payslip 1,
-- which has all 63 parts: 15,983 in all. Payslip 2 has 16 parts in columns 1 to 4, and its amount in column 5.
abbrev pub sheet_long : ℕ → List ℕ
sheet_long amount =
    replicate 7 4294967295 ++ replicate 9 2147483647
    ++ replicate 4 4294967295 ++ amount ∷ replicate 11 0

unfoldable pub ranges : List Row
unfolding definitions
ranges =
    -- the limits themselves (Spec 1.1, 1.2, 2.1, 5.4, 8)
    (most_columns ∷ most_payslips ∷ most_steps ∷ most_amount ∷ longest_file ∷ most_scratch ∷ []) gives (16 ∷ 64 ∷ 16000 ∷ 4294967295 ∷ 56116 ∷ 16017 ∷ [])
    ∷ (byte_count edition1 16 64 16000 ∷ []) gives (56116 ∷ [])
    -- p is 1 to 16 (Spec 1.1): 0, 1, 16, 17 for each call
    ∷ each (λ p. compile_sized p 1) (ends 16) gives (1 ∷ 0 ∷ 2 ∷ 0 ∷ 2 ∷ 0 ∷ 1 ∷ 0 ∷ [])
    ∷ each (λ p. write_sized p 1) (ends 16) gives (1 ∷ 0 ∷ 5 ∷ 0 ∷ 5 ∷ 0 ∷ 1 ∷ 0 ∷ [])
    ∷ each (λ p. check_sized p 1) (ends 16) gives (1 ∷ 0 ∷ 2 ∷ 0 ∷ 2 ∷ 0 ∷ 1 ∷ 0 ∷ [])
    ∷ each (λ p. run_sized p 1) (ends 16) gives (1 ∷ 0 ∷ 15 ∷ 0 ∷ 15 ∷ 0 ∷ 1 ∷ 0 ∷ [])
    ∷ each (λ p. choose_sized p 1) (ends 16) gives (0 ∷ 1 ∷ 0 ∷ 0 ∷ 2 ∷ 0 ∷ 0 ∷ 2 ∷ 0 ∷ 0 ∷ 1 ∷ 0 ∷ [])
    -- q is 1 to 64 (Spec 1.1): 0, 1, 64, 65 for each call
    ∷ each (compile_sized 1) (ends 64) gives (1 ∷ 0 ∷ 2 ∷ 0 ∷ 2 ∷ 0 ∷ 1 ∷ 0 ∷ [])
    ∷ each (write_sized 1) (ends 64) gives (1 ∷ 0 ∷ 5 ∷ 0 ∷ 5 ∷ 0 ∷ 1 ∷ 0 ∷ [])
    ∷ each (check_sized 1) (ends 64) gives (1 ∷ 0 ∷ 2 ∷ 0 ∷ 2 ∷ 0 ∷ 1 ∷ 0 ∷ [])
    ∷ each (run_sized 1) (ends 64) gives (1 ∷ 0 ∷ 15 ∷ 0 ∷ 15 ∷ 0 ∷ 1 ∷ 0 ∷ [])
    ∷ each (choose_sized 1) (ends 64) gives (0 ∷ 1 ∷ 0 ∷ 0 ∷ 2 ∷ 0 ∷ 0 ∷ 2 ∷ 0 ∷ 0 ∷ 1 ∷ 0 ∷ [])
    -- a file of p = 16 and q = 64, and of p = 1 and q = 1: no step and outputs 0
    ∷ answered (read_answer edition1 (0x1f ∷ 0xfc ∷ 0x00 ∷ replicate 41 0) 0 64) gives (0 ∷ 16 ∷ 64 ∷ 0 ∷ 0 ∷ 0 ∷ [])
    ∷ answered (read_answer edition1 (0x10 ∷ 0x00 ∷ 0x00 ∷ 0x00 ∷ []) 0 1) gives (0 ∷ 1 ∷ 1 ∷ 0 ∷ 0 ∷ 0 ∷ [])
    -- n is at most 16,000 (Spec 2.1), else 4: by write (then 9), check (then 2), run (then 15), read (then 6) and compile (then 5)
    ∷ each (λ n. answered (write_answer edition1 1 (replicate n (by 1 0)) (0 ∷ []) 0)) (edition1.limit ∷ (edition1.limit + 1) ∷ []) gives (9 ∷ 1 ∷ 4 ∷ 0 ∷ [])
    ∷ each (λ n. answered (verify_answer 1 (replicate n (by 1 1)) (0 ∷ []) [] 0)) (most_steps ∷ (most_steps + 1) ∷ []) gives (2 ∷ 0 ∷ 4 ∷ 0 ∷ [])
    ∷ each (λ n. answered (run_answer 1 (replicate n (by 1 1)) (0 ∷ []) 0 [] 0 0)) (most_steps ∷ (most_steps + 1) ∷ []) gives (15 ∷ 0 ∷ 4 ∷ 0 ∷ [])
    ∷ answered (read_answer edition1 (0x10 ∷ 0x03 ∷ 0xe8 ∷ 0x00 ∷ []) 0 0) gives (6 ∷ 0 ∷ [])
    ∷ answered (read_answer edition1 (0x10 ∷ 0x03 ∷ 0xe8 ∷ 0x10 ∷ []) 0 0) gives (4 ∷ 0 ∷ [])
    ∷ each (λ x. answered (compile_answer 16 2 (sheet_long x) 3 8 0 0)) (65535 ∷ 131071 ∷ []) gives (5 ∷ 0 ∷ 4 ∷ 0 ∷ [])
    ∷ each (λ x. count 16 2 (sheet_long x) 3 8 ∷ []) (65535 ∷ 131071 ∷ []) gives (16000 ∷ 16001 ∷ [])
    -- Straus: k is 1 to 5, and p times k at most 10 (Spec 3): 10 · 1, 11 · 1, 5 · 2, 6 · 2, 3 · 3, 4 · 3, 2 · 4, 3 · 4, 2 · 5, 3 · 5
    ∷ each (parameter 1 1) (ends 5) gives (3 ∷ 0 ∷ 5 ∷ 0 ∷ 5 ∷ 0 ∷ 3 ∷ 0 ∷ [])
    ∷ each (λ p. parameter p 1 1) (10 ∷ 11 ∷ []) gives (5 ∷ 0 ∷ 3 ∷ 0 ∷ [])
    ∷ each (λ p. parameter p 1 2) (5 ∷ 6 ∷ []) gives (5 ∷ 0 ∷ 3 ∷ 0 ∷ [])
    ∷ each (λ p. parameter p 1 3) (3 ∷ 4 ∷ []) gives (5 ∷ 0 ∷ 3 ∷ 0 ∷ [])
    ∷ each (λ p. parameter p 1 4) (2 ∷ 3 ∷ []) gives (5 ∷ 0 ∷ 3 ∷ 0 ∷ [])
    ∷ each (λ p. parameter p 1 5) (2 ∷ 3 ∷ []) gives (5 ∷ 0 ∷ 3 ∷ 0 ∷ [])
    -- Yao and partition: 1 to 8, for any p (Spec 3)
    ∷ each (parameter 1 2) (ends 8) gives (3 ∷ 0 ∷ 5 ∷ 0 ∷ 5 ∷ 0 ∷ 3 ∷ 0 ∷ [])
    ∷ each (parameter 16 2) (ends 8) gives (3 ∷ 0 ∷ 5 ∷ 0 ∷ 5 ∷ 0 ∷ 3 ∷ 0 ∷ [])
    ∷ each (parameter 1 3) (ends 8) gives (3 ∷ 0 ∷ 5 ∷ 0 ∷ 5 ∷ 0 ∷ 3 ∷ 0 ∷ [])
    ∷ each (parameter 16 3) (ends 8) gives (3 ∷ 0 ∷ 5 ∷ 0 ∷ 5 ∷ 0 ∷ 3 ∷ 0 ∷ [])
    -- methods are 1, 2 and 3 (Spec 3): 0 to 4 with parameter 1
    ∷ each (λ method. parameter 1 method 1) (0 ∷ 1 ∷ 2 ∷ 3 ∷ 4 ∷ []) gives (3 ∷ 0 ∷ 5 ∷ 0 ∷ 5 ∷ 0 ∷ 5 ∷ 0 ∷ 3 ∷ 0 ∷ [])
    -- an exponent of 4,294,967,295 passes, and 4,294,967,296 is 13 (Spec 4); case I is the chain (Spec 11)
    ∷ answered (verify_answer 1 (ones 31) (63 ∷ []) (4294967295 ∷ []) 64) gives (0 ∷ 62 ∷ 31 ∷ 31 ∷ [])
    ∷ answered (verify_answer 1 (ones 31 ++ by 63 1 ∷ []) (63 ∷ []) (4294967295 ∷ []) 65) gives (13 ∷ 63 ∷ [])
    ∷ (flat (chain_of 1 1 (4294967295 ∷ []) 1 1).steps ++ (chain_of 1 1 (4294967295 ∷ []) 1 1).outputs) gives (flat (ones 31) ++ 63 ∷ [])
    -- the largest modulus, the largest base below it, and that modulus as a base (Spec 6)
    ∷ answered (run_answer 1 [] (0 ∷ []) 4294967295 (4294967294 ∷ []) 2 1) gives (0 ∷ 0 ∷ 0 ∷ 0 ∷ [])
    ∷ answered (run_answer 1 [] (0 ∷ []) 4294967295 (4294967295 ∷ []) 2 1) gives (16 ∷ 0 ∷ [])
    -- each base is looked at, and one too few or too many is 16 (Spec 10.1)
    ∷ answered (run_answer 3 [] (0 ∷ []) 7 (6 ∷ 6 ∷ 6 ∷ []) 4 1) gives (0 ∷ 0 ∷ 0 ∷ 0 ∷ [])
    ∷ answered (run_answer 3 [] (0 ∷ []) 7 (6 ∷ 7 ∷ 6 ∷ []) 4 1) gives (16 ∷ 0 ∷ [])
    ∷ answered (run_answer 3 [] (0 ∷ []) 7 (6 ∷ 6 ∷ 7 ∷ []) 4 1) gives (16 ∷ 0 ∷ [])
    ∷ answered (run_answer 3 [] (0 ∷ []) 7 (6 ∷ 6 ∷ []) 4 1) gives (16 ∷ 0 ∷ [])
    ∷ answered (run_answer 3 [] (0 ∷ []) 7 (6 ∷ 6 ∷ 6 ∷ 6 ∷ []) 4 1) gives (16 ∷ 0 ∷ [])
    -- an amount more and one less than p times q (Spec 1.2)
    ∷ each (λ n. answered (compile_answer 2 2 (replicate n 0) 3 1 0 0)) (3 ∷ 4 ∷ 5 ∷ []) gives (2 ∷ 0 ∷ 5 ∷ 0 ∷ 2 ∷ 0 ∷ [])
    ∷ each (λ n. answered (verify_answer 2 [] (0 ∷ 0 ∷ []) (replicate n 0) 0)) (3 ∷ 4 ∷ 5 ∷ []) gives (2 ∷ 0 ∷ 5 ∷ 0 ∷ 2 ∷ 0 ∷ [])
    -- operands and outputs at both ends (Spec 2.2, 2.3): with p = 2 step 1 makes value 3
    ∷ answered (write_answer edition1 2 (pairs (2 ∷ 2 ∷ [])) (0 ∷ 3 ∷ []) 9) gives (0 ∷ 5 ∷ [])
    ∷ answered (write_answer edition1 2 (pairs (3 ∷ 2 ∷ [])) (0 ∷ 3 ∷ []) 9) gives (10 ∷ 1 ∷ [])
    ∷ answered (write_answer edition1 2 (pairs (2 ∷ 2 ∷ [])) (0 ∷ 4 ∷ []) 9) gives (12 ∷ 2 ∷ [])
    -- a chain is legal if p, q, n, its steps and its outputs are in their ranges (Spec 2.4)
    ∷ each (λ p. verdict (legal_rule p [] (0 ∷ []))) (ends 16) gives (1 ∷ 0 ∷ 0 ∷ 0 ∷ 1 ∷ 0 ∷ [])
    ∷ each (λ q. verdict (legal_rule 1 [] (replicate q 0))) (ends 64) gives (1 ∷ 0 ∷ 0 ∷ 0 ∷ 1 ∷ 0 ∷ [])
    ∷ each (λ n. verdict (legal_rule 1 (replicate n (by 1 0)) (0 ∷ []))) (most_steps ∷ (most_steps + 1) ∷ []) gives (9 ∷ 1 ∷ 4 ∷ 0 ∷ [])
    ∷ each (λ o. verdict (legal_rule 2 (pairs steps_a) (0 ∷ o ∷ []))) (0 ∷ 5 ∷ 6 ∷ []) gives (0 ∷ 0 ∷ 12 ∷ 2 ∷ [])
    ∷ each (λ a. verdict (legal_rule 2 (by 2 1 ∷ by a 2 ∷ []) (0 ∷ []))) (1 ∷ 2 ∷ 3 ∷ 4 ∷ []) gives (11 ∷ 2 ∷ 0 ∷ 0 ∷ 10 ∷ 2 ∷ [])
    -- each lent slice of just the length that case A needs, and one cell less (Spec 10.4): compile, write, read, check, run
    ∷ answered (compile_answer 2 1 sheet_a 1 1 3 1) gives (0 ∷ 3 ∷ 1 ∷ 2 ∷ [])
    ∷ answered (compile_answer 2 1 sheet_a 1 1 2 1) gives (5 ∷ 0 ∷ [])
    ∷ answered (compile_answer 2 1 sheet_a 1 1 3 0) gives (5 ∷ 0 ∷ [])
    ∷ each (λ n. answered (write_answer edition1 2 (pairs steps_a) (5 ∷ []) n)) (6 ∷ 7 ∷ []) gives (5 ∷ 0 ∷ 0 ∷ 7 ∷ [])
    ∷ answered (read_answer edition1 file_a 3 1) gives (0 ∷ 2 ∷ 1 ∷ 3 ∷ 1 ∷ 2 ∷ [])
    ∷ answered (read_answer edition1 file_a 2 1) gives (5 ∷ 0 ∷ [])
    ∷ answered (read_answer edition1 file_a 3 0) gives (5 ∷ 0 ∷ [])
    ∷ each (λ n. answered (verify_answer 2 (pairs steps_a) (5 ∷ []) sheet_a n)) (5 ∷ 6 ∷ []) gives (5 ∷ 0 ∷ 0 ∷ 3 ∷ 1 ∷ 2 ∷ [])
    ∷ answered (run_answer 2 (pairs steps_a) (5 ∷ []) 7 (3 ∷ 5 ∷ []) 6 1) gives (0 ∷ 3 ∷ 1 ∷ 2 ∷ [])
    ∷ answered (run_answer 2 (pairs steps_a) (5 ∷ []) 7 (3 ∷ 5 ∷ []) 5 1) gives (5 ∷ 0 ∷ [])
    ∷ answered (run_answer 2 (pairs steps_a) (5 ∷ []) 7 (3 ∷ 5 ∷ []) 6 0) gives (5 ∷ 0 ∷ [])
    -- with two outputs
    ∷ answered (compile_answer 1 2 (1 ∷ 1 ∷ []) 1 1 0 2) gives (0 ∷ 0 ∷ 0 ∷ 0 ∷ [])
    ∷ answered (compile_answer 1 2 (1 ∷ 1 ∷ []) 1 1 0 1) gives (5 ∷ 0 ∷ [])
    ∷ answered (read_answer edition1 (0x10 ∷ 0x04 ∷ 0x00 ∷ 0x00 ∷ []) 0 2) gives (0 ∷ 1 ∷ 2 ∷ 0 ∷ 0 ∷ 0 ∷ [])
    ∷ answered (read_answer edition1 (0x10 ∷ 0x04 ∷ 0x00 ∷ 0x00 ∷ []) 0 1) gives (5 ∷ 0 ∷ [])
    ∷ answered (run_answer 1 [] (0 ∷ 0 ∷ []) 7 (3 ∷ []) 2 2) gives (0 ∷ 0 ∷ 0 ∷ 0 ∷ [])
    ∷ answered (run_answer 1 [] (0 ∷ 0 ∷ []) 7 (3 ∷ []) 2 1) gives (5 ∷ 0 ∷ [])
    -- the chooser's scratch, whatever the files are (Spec 8)
    ∷ chosen (choice 2 1 sheet_a file_a file_a 16000 64 16017) gives (1 ∷ [])
    ∷ chosen (choice 2 1 sheet_a file_a file_a 15999 64 16017) gives (0 ∷ 5 ∷ 0 ∷ [])
    ∷ chosen (choice 2 1 sheet_a file_a file_a 16000 63 16017) gives (0 ∷ 5 ∷ 0 ∷ [])
    ∷ chosen (choice 2 1 sheet_a file_a file_a 16000 64 16016) gives (0 ∷ 5 ∷ 0 ∷ [])
    -- 4 bytes or more are read (Spec 10.1)
    ∷ answered (read_answer edition1 (0x20 ∷ 0x00 ∷ 0x00 ∷ []) 0 1) gives (6 ∷ 0 ∷ [])
    ∷ answered (read_answer edition1 (0x20 ∷ 0x00 ∷ 0x00 ∷ 0x00 ∷ []) 0 1) gives (7 ∷ 0 ∷ [])
    -- the longest input of the lister, of edition 2, and a byte more (Spec 9)
    ∷ listing (0x20 ∷ replicate 56115 0) gives refused_line (55 ∷ [])
    ∷ listing (0x20 ∷ replicate 56116 0) gives refused_line (54 ∷ [])
    ∷ []

pub ranges_hold : (d : Row) (k : ℕ) → k < length ranges → Holds (get_or ranges k d)
unfolding ranges
ranges_hold d k h = rows_hold ranges d tt k h
