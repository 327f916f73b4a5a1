-- Squarings and other products (Req 05; Spec 2.7, 10.6): of chains, by each call, by each method; and all that is answered, as words.
use Rattle.std.specs.Prelude.{List, [], ◌∷◌, ◌++◌, ℕ, ◌<◌, length, get_or}
use Rattle.chain.specs.Chain.{by, pairs, counts}
use Rattle.chain.specs.Verdict.{done, refusal}
use Rattle.tell.specs.Told.{words_of}
use Rattle.verify.specs.Verify.{verify_answer}
use Rattle.run.specs.Run.{run_answer}
use Rattle.pool.specs.Pool.{part, pool_answer}
use Rattle.layout.specs.Layout.{edition1}
use Rattle.layout.specs.File.{file_of, read_answer}
use Rattle.compile.specs.Compile.{compile_answer}
use Rattle.trials.specs.Rows.{Row, ◌gives◌, Holds, rows_hold, answered}
use Rattle.trials.specs.Trials.{doublings, sheet_a, steps_a, file_a}
use Rattle.trials_pool.specs.Pools.{pool_definitions}

-- a chain read from its file, checked, run modulo 7, and pooled with a chain that has no step
abbrev pub by_all : ℕ → List ℕ → List ℕ → List ℕ → List ℕ → List ℕ
by_all p steps outputs amounts bases =
    answered (read_answer edition1 (file_of edition1 p (pairs steps) outputs) 99 9)
    ++ answered (verify_answer p (pairs steps) outputs amounts 99)
    ++ answered (run_answer p (pairs steps) outputs 7 bases 99 99)
    ++ answered (pool_answer (part p (pairs steps) outputs) (part p [] (0 ∷ [])) 99 99)

-- what these answer where nothing is refused: p, q and the three numbers, then three times those
abbrev pub told : ℕ → ℕ → ℕ → ℕ → ℕ → List ℕ
told p q n squarings products =
    0 ∷ p ∷ q ∷ n ∷ squarings ∷ products ∷ 0 ∷ n ∷ squarings ∷ products ∷ 0 ∷ n ∷ squarings ∷ products ∷ 0 ∷ n ∷ squarings ∷ products ∷ []

-- compiled, with room enough
abbrev pub made : ℕ → ℕ → List ℕ → ℕ → ℕ → List ℕ
made p q amounts method k = answered (compile_answer p q amounts method k 99 9)

unfoldable pub counted_rows : List Row
unfolding pool_definitions
counted_rows =
    -- case A: one squaring and two products; no step; squarings alone; products alone; an odd last number is no operand
    counts (pairs steps_a) gives (3 ∷ 1 ∷ 2 ∷ [])
    ∷ counts [] gives (0 ∷ 0 ∷ 0 ∷ [])
    ∷ counts (doublings 5) gives (5 ∷ 5 ∷ 0 ∷ [])
    ∷ counts (by 2 1 ∷ by 3 1 ∷ by 4 2 ∷ []) gives (3 ∷ 0 ∷ 3 ∷ [])
    ∷ counts (pairs (1 ∷ 1 ∷ 2 ∷ [])) gives (1 ∷ 1 ∷ 0 ∷ [])
    -- two values that are equal under two numbers: their product is no squaring
    ∷ counts (by 1 1 ∷ by 1 1 ∷ by 3 2 ∷ []) gives (3 ∷ 2 ∷ 1 ∷ [])
    -- case A by read, check, run and pool
    ∷ by_all 2 steps_a (5 ∷ []) sheet_a (3 ∷ 5 ∷ []) gives (told 2 1 3 1 2)
    -- the other chains likewise; equal bases are two numbers too
    ∷ by_all 1 [] (1 ∷ []) (1 ∷ []) (3 ∷ []) gives (told 1 1 0 0 0)
    ∷ by_all 1 (1 ∷ 1 ∷ 2 ∷ 2 ∷ []) (3 ∷ []) (4 ∷ []) (3 ∷ []) gives (told 1 1 2 2 0)
    ∷ by_all 2 (2 ∷ 1 ∷ 3 ∷ 1 ∷ []) (4 ∷ []) (2 ∷ 1 ∷ []) (3 ∷ 5 ∷ []) gives (told 2 1 2 0 2)
    ∷ by_all 1 (1 ∷ 1 ∷ 1 ∷ 1 ∷ 3 ∷ 2 ∷ []) (4 ∷ []) (4 ∷ []) (3 ∷ []) gives (told 1 1 3 2 1)
    ∷ by_all 2 (2 ∷ 1 ∷ []) (3 ∷ []) (1 ∷ 1 ∷ []) (3 ∷ 3 ∷ []) gives (told 2 1 1 0 1)
    ∷ by_all 1 (1 ∷ 1 ∷ 2 ∷ []) (2 ∷ 0 ∷ []) (2 ∷ 0 ∷ []) (3 ∷ []) gives (told 1 2 1 1 0)
    -- a pool has the squarings of both parts: here 1 of 3 and 2 of 3, whose numbers above 2 go up by 3
    ∷ answered (pool_answer (part 2 (pairs steps_a) (5 ∷ [])) (part 2 (by 1 1 ∷ by 3 3 ∷ by 4 3 ∷ []) (5 ∷ [])) 6 2) gives (0 ∷ 6 ∷ 3 ∷ 3 ∷ [])
    ∷ answered (pool_answer (part 1 [] (0 ∷ [])) (part 1 (by 1 1 ∷ by 2 1 ∷ []) (3 ∷ [])) 2 2) gives (0 ∷ 2 ∷ 1 ∷ 1 ∷ [])
    -- Straus: a payslip's squarings, and with k above 1 one in the table for each base
    ∷ made 2 1 sheet_a 1 1 gives (0 ∷ 3 ∷ 1 ∷ 2 ∷ [])
    ∷ made 1 1 (11 ∷ []) 1 2 gives (0 ∷ 5 ∷ 3 ∷ 2 ∷ [])
    ∷ made 1 1 (7 ∷ []) 1 3 gives (0 ∷ 6 ∷ 1 ∷ 5 ∷ [])
    ∷ made 2 2 (2 ∷ 1 ∷ 5 ∷ 3 ∷ []) 1 2 gives (0 ∷ 16 ∷ 4 ∷ 12 ∷ [])
    -- Yao: the powers, and where a takes up the b that it is: 2, 3 and 9 in base 4; each amount of two payslips in base 8
    ∷ made 2 1 sheet_a 2 1 gives (0 ∷ 4 ∷ 2 ∷ 2 ∷ [])
    ∷ made 1 1 (2 ∷ []) 2 2 gives (0 ∷ 1 ∷ 1 ∷ 0 ∷ [])
    ∷ made 1 1 (3 ∷ []) 2 2 gives (0 ∷ 2 ∷ 1 ∷ 1 ∷ [])
    ∷ made 1 1 (9 ∷ []) 2 2 gives (0 ∷ 4 ∷ 2 ∷ 2 ∷ [])
    ∷ made 2 2 (2 ∷ 6 ∷ 7 ∷ 5 ∷ []) 2 3 gives (0 ∷ 18 ∷ 4 ∷ 14 ∷ [])
    -- partition: the squarings that make its inputs, and no other
    ∷ made 2 1 sheet_a 3 1 gives (0 ∷ 4 ∷ 2 ∷ 2 ∷ [])
    ∷ made 2 1 sheet_a 3 2 gives (0 ∷ 5 ∷ 2 ∷ 3 ∷ [])
    ∷ made 2 2 (3 ∷ 2 ∷ 0 ∷ 0 ∷ []) 3 3 gives (0 ∷ 7 ∷ 2 ∷ 5 ∷ [])
    -- payslips of zeros have no step
    ∷ made 1 2 (0 ∷ 0 ∷ []) 1 1 gives (0 ∷ 0 ∷ 0 ∷ 0 ∷ [])
    -- a refusal tells no numbers of a chain
    ∷ answered (compile_answer 2 1 sheet_a 1 1 2 1) gives (5 ∷ 0 ∷ [])
    ∷ answered (verify_answer 2 (pairs steps_a) (5 ∷ []) (3 ∷ 3 ∷ []) 99) gives (14 ∷ 1 ∷ [])
    ∷ answered (run_answer 2 (pairs steps_a) (5 ∷ []) 0 (3 ∷ 5 ∷ []) 99 99) gives (15 ∷ 0 ∷ [])
    -- eight words: what is answered and zeros, also of an answer that fills them; a refusal's place and zeros
    ∷ words_of (compile_answer 2 1 sheet_a 1 1 3 1) gives (3 ∷ 1 ∷ 2 ∷ 0 ∷ 0 ∷ 0 ∷ 0 ∷ 0 ∷ [])
    ∷ words_of (read_answer edition1 file_a 3 1) gives (2 ∷ 1 ∷ 3 ∷ 1 ∷ 2 ∷ 0 ∷ 0 ∷ 0 ∷ [])
    ∷ words_of (done []) gives (0 ∷ 0 ∷ 0 ∷ 0 ∷ 0 ∷ 0 ∷ 0 ∷ 0 ∷ [])
    ∷ words_of (done (1 ∷ 2 ∷ 3 ∷ 4 ∷ 5 ∷ 6 ∷ 7 ∷ 8 ∷ [])) gives (1 ∷ 2 ∷ 3 ∷ 4 ∷ 5 ∷ 6 ∷ 7 ∷ 8 ∷ [])
    ∷ words_of (refusal 9 2) gives (2 ∷ 0 ∷ 0 ∷ 0 ∷ 0 ∷ 0 ∷ 0 ∷ 0 ∷ [])
    ∷ []

pub counted_hold : (d : Row) (k : ℕ) → k < length counted_rows → Holds (get_or counted_rows k d)
unfolding counted_rows
counted_hold d k h = rows_hold counted_rows d tt k h
