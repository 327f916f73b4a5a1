-- Faults at several steps or payslips and in several columns at once: the place is the first of them over all columns (Spec 10.3).
use Rattle.std.specs.Prelude.{List, [], ◌∷◌, ◌++◌, ℕ, zero, suc, ◌+◌, ◌<◌, length, get_or}
use Rattle.chain.specs.Chain.{by, pairs}
use Rattle.chain.specs.declared.Step.{Step}
use Rattle.verify.specs.Verify.{verify_answer}
use Rattle.run.specs.Run.{run_answer}
use Rattle.layout.specs.Layout.{edition1}
use Rattle.layout.specs.File.{write_answer, read_answer}
use Rattle.trials.specs.Rows.{Row, ◌gives◌, Holds, rows_hold, answered, definitions}
use Rattle.trials.specs.Refusals.{choosing}

-- n squarings in a row, from value v, the first of them making value w
abbrev pub squarings_from : ℕ → ℕ → ℕ → List Step
squarings_from v w zero = []
squarings_from v w (suc n) = by v v ∷ squarings_from w (suc w) n

-- the check with scratch enough
abbrev pub judged : ℕ → List Step → List ℕ → List ℕ → List ℕ
judged p steps outputs amounts = answered (verify_answer p steps outputs amounts (p + length steps + 1))

-- write, check and run in turn: the chain's steps and outputs, for p columns with amounts and bases
abbrev pub by_all : ℕ → List ℕ → List ℕ → List ℕ → List ℕ → List ℕ
by_all p steps outputs amounts bases =
    answered (write_answer edition1 p (pairs steps) outputs 99)
    ++ judged p (pairs steps) outputs amounts
    ++ answered (run_answer p (pairs steps) outputs 7 bases 99 99)

unfoldable pub places : List Row
unfolding definitions
places =
    -- 13: column 2 too large at step 32 and column 1 at step 64; the other way round; column 2 alone; the second of three columns;
    -- after a step that is not
    judged 2 (squarings_from 2 3 32 ++ squarings_from 1 35 32) (0 ∷ []) (0 ∷ 0 ∷ []) gives (13 ∷ 32 ∷ [])
    ∷ judged 2 (squarings_from 1 3 32 ++ squarings_from 2 35 32) (0 ∷ []) (0 ∷ 0 ∷ []) gives (13 ∷ 32 ∷ [])
    ∷ judged 2 (squarings_from 2 3 32) (0 ∷ []) (0 ∷ 0 ∷ []) gives (13 ∷ 32 ∷ [])
    ∷ judged 3 (squarings_from 2 4 33) (0 ∷ []) (0 ∷ 0 ∷ 0 ∷ []) gives (13 ∷ 32 ∷ [])
    ∷ judged 2 (by 1 1 ∷ squarings_from 2 4 32) (0 ∷ []) (0 ∷ 0 ∷ []) gives (13 ∷ 33 ∷ [])
    -- 13 of a value that no output uses comes before 14 of payslip 1 in another column
    ∷ judged 2 (squarings_from 2 3 32) (0 ∷ []) (1 ∷ 0 ∷ []) gives (13 ∷ 32 ∷ [])
    -- 14: payslip 1 wrong in column 2 and payslip 2 in column 1; the other way round; a right payslip before two wrong ones
    ∷ judged 2 [] (0 ∷ 0 ∷ []) (0 ∷ 1 ∷ 1 ∷ 0 ∷ []) gives (14 ∷ 1 ∷ [])
    ∷ judged 2 [] (0 ∷ 0 ∷ []) (1 ∷ 0 ∷ 0 ∷ 1 ∷ []) gives (14 ∷ 1 ∷ [])
    ∷ judged 2 [] (2 ∷ 0 ∷ 0 ∷ []) (0 ∷ 1 ∷ 0 ∷ 1 ∷ 1 ∷ 0 ∷ []) gives (14 ∷ 2 ∷ [])
    ∷ judged 2 [] (2 ∷ 0 ∷ 0 ∷ []) (0 ∷ 1 ∷ 1 ∷ 0 ∷ 0 ∷ 1 ∷ []) gives (14 ∷ 2 ∷ [])
    -- 14 in column 2 alone, in the second and in the last of three, and in the last payslip
    ∷ judged 2 [] (1 ∷ []) (1 ∷ 1 ∷ []) gives (14 ∷ 1 ∷ [])
    ∷ judged 3 [] (3 ∷ []) (0 ∷ 1 ∷ 1 ∷ []) gives (14 ∷ 1 ∷ [])
    ∷ judged 3 [] (1 ∷ []) (1 ∷ 0 ∷ 1 ∷ []) gives (14 ∷ 1 ∷ [])
    ∷ judged 1 [] (0 ∷ 1 ∷ 1 ∷ []) (0 ∷ 1 ∷ 0 ∷ []) gives (14 ∷ 3 ∷ [])
    -- right payslips: columns and payslips in the sheet's order
    ∷ judged 2 (by 1 1 ∷ by 3 2 ∷ []) (4 ∷ 2 ∷ 0 ∷ []) (2 ∷ 1 ∷ 0 ∷ 1 ∷ 0 ∷ 0 ∷ []) gives (0 ∷ 2 ∷ 1 ∷ 1 ∷ [])
    -- 12: a right output before two wrong ones, by write, check, run and read (p = 2, outputs 2, 3 and 3)
    ∷ by_all 1 [] (1 ∷ 2 ∷ 3 ∷ []) (0 ∷ 0 ∷ 0 ∷ []) (3 ∷ []) gives (12 ∷ 2 ∷ 12 ∷ 2 ∷ 12 ∷ 2 ∷ [])
    ∷ answered (read_answer edition1 (0x11 ∷ 0x08 ∷ 0x00 ∷ 0x0b ∷ 0xc0 ∷ []) 9 9) gives (12 ∷ 2 ∷ [])
    -- 9, in the second operand and in the first: a right step before two wrong ones, by write, check and run
    ∷ by_all 1 (1 ∷ 1 ∷ 2 ∷ 0 ∷ 0 ∷ 1 ∷ []) (0 ∷ []) (0 ∷ []) (3 ∷ []) gives (9 ∷ 2 ∷ 9 ∷ 2 ∷ 9 ∷ 2 ∷ [])
    ∷ by_all 1 (1 ∷ 1 ∷ 0 ∷ 1 ∷ 1 ∷ 0 ∷ []) (0 ∷ []) (0 ∷ []) (3 ∷ []) gives (9 ∷ 2 ∷ 9 ∷ 2 ∷ 9 ∷ 2 ∷ [])
    -- 10: the value that the step makes itself, in the first operand and in the second
    ∷ by_all 1 (1 ∷ 1 ∷ 3 ∷ 1 ∷ 9 ∷ 9 ∷ []) (0 ∷ []) (0 ∷ []) (3 ∷ []) gives (10 ∷ 2 ∷ 10 ∷ 2 ∷ 10 ∷ 2 ∷ [])
    ∷ by_all 1 (1 ∷ 1 ∷ 2 ∷ 3 ∷ 9 ∷ 9 ∷ []) (0 ∷ []) (0 ∷ []) (3 ∷ []) gives (10 ∷ 2 ∷ 10 ∷ 2 ∷ 10 ∷ 2 ∷ [])
    -- 11; equal operands are right
    ∷ by_all 2 (2 ∷ 2 ∷ 1 ∷ 2 ∷ 1 ∷ 3 ∷ []) (0 ∷ []) (0 ∷ 0 ∷ []) (3 ∷ 5 ∷ []) gives (11 ∷ 2 ∷ 11 ∷ 2 ∷ 11 ∷ 2 ∷ [])
    -- by read: case A's file with steps (2,1) (3,0) (0,1); (2,1) (4,1) (7,7); (2,1) (1,2) (1,3)
    ∷ answered (read_answer edition1 (0x11 ∷ 0x00 ∷ 0x00 ∷ 0x34 ∷ 0x58 ∷ 0x06 ∷ 0x80 ∷ []) 3 1) gives (9 ∷ 2 ∷ [])
    ∷ answered (read_answer edition1 (0x11 ∷ 0x00 ∷ 0x00 ∷ 0x34 ∷ 0x61 ∷ 0xfe ∷ 0x80 ∷ []) 3 1) gives (10 ∷ 2 ∷ [])
    ∷ answered (read_answer edition1 (0x11 ∷ 0x00 ∷ 0x00 ∷ 0x34 ∷ 0x4a ∷ 0x2e ∷ 0x80 ∷ []) 3 1) gives (11 ∷ 2 ∷ [])
    -- in the chooser: case A's file with output 4, for its sheet
    ∷ choosing 2 1 (3 ∷ 2 ∷ []) (0x11 ∷ 0x00 ∷ 0x00 ∷ 0x34 ∷ 0x5b ∷ 0x86 ∷ 0x00 ∷ []) [] gives (0 ∷ 14 ∷ 1 ∷ [])
    ∷ []

pub places_hold : (d : Row) (k : ℕ) → k < length places → Holds (get_or places k d)
unfolding places
places_hold d k h = rows_hold places d tt k h
