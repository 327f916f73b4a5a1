-- Pools of case A with itself and with others: the answer and both slices, the check against both sheets, and the figures (Spec 7.4).
use Rattle.std.specs.Prelude.{List, [], ◌∷◌, ◌++◌, ℕ, ◌+◌, ◌<◌, length, get_or}
use Rattle.chain.specs.Chain.{by, pairs}
use Rattle.verify.specs.Verify.{verify_answer}
use Rattle.run.specs.Run.{run_answer, run_figures}
use Rattle.pool.specs.Pool.{
  Part,
  part,
  renumbered,
  pooled_steps,
  pooled_outputs,
  counted,
  both_sizes_rule,
  both_lengths_rule,
  both_steps_rule,
  both_outputs_rule,
  poolable_rule,
  pool_rule,
  pool_answer,
  pool_steps,
  pool_outputs,
}
use Rattle.trials.specs.Rows.{Row, ◌gives◌, Holds, rows_hold, answered, definitions}
use Rattle.trials.specs.Trials.{nines, steps_a, doublings}

-- a table that unfolds this unfolds all that a pool is read by
unfoldable pub pool_definitions : Unit {0}
unfolding definitions renumbered counted both_sizes_rule both_lengths_rule both_steps_rule both_outputs_rule poolable_rule pool_rule pool_answer pool_steps pool_outputs
pool_definitions = tt

-- two parts pooled into so many pairs and outputs
abbrev pub pooling : Part → Part → ℕ → ℕ → List ℕ
pooling a b n q = answered (pool_answer a b n q) ++ pool_steps a b q (nines (n + n)) ++ pool_outputs a b n (nines q)

-- cases A and B; the square of base 2, with value 0, both bases and the square as outputs; no step at all
abbrev pub chain_a : Part
chain_a = part 2 (pairs steps_a) (5 ∷ [])

abbrev pub chain_b : Part
chain_b = part 2 (pairs (1 ∷ 1 ∷ 2 ∷ 2 ∷ 3 ∷ 1 ∷ 5 ∷ 4 ∷ [])) (6 ∷ [])

abbrev pub square : Part
square = part 2 (by 2 2 ∷ []) (0 ∷ 1 ∷ 2 ∷ 3 ∷ [])

abbrev pub stepless : Part
stepless = part 2 [] (0 ∷ 2 ∷ [])

-- the last of 16 bases squared
abbrev pub wide : Part
wide = part 16 (by 16 16 ∷ []) (16 ∷ 17 ∷ [])

-- base 1 squared n times
abbrev pub squarings : ℕ → Part
squarings n = part 1 (doublings n) (0 ∷ [])

-- the check of the pool of two parts with two columns, and its run over the bases 3 and 5 modulo 1,000, with room enough
abbrev pub checked_pool : Part → Part → List ℕ → List ℕ
checked_pool a b amounts = answered (verify_answer 2 (pooled_steps a b) (pooled_outputs a b) amounts 20)

abbrev pub figures_pool : Part → Part → ℕ → List ℕ
figures_pool a b q =
    answered (run_answer 2 (pooled_steps a b) (pooled_outputs a b) 1000 (3 ∷ 5 ∷ []) 20 q)
    ++ run_figures 2 (pooled_steps a b) (pooled_outputs a b) 1000 (3 ∷ 5 ∷ []) 20 (nines q)

unfoldable pub pools : List Row
unfolding pool_definitions
pools =
    -- case A with itself: with a pair and an output more than is needed, then with just as many, then with an odd cell more
    pooling chain_a chain_a 7 3 gives (0 ∷ 6 ∷ 2 ∷ 4 ∷ steps_a ++ 2 ∷ 1 ∷ 6 ∷ 6 ∷ 7 ∷ 1 ∷ 9 ∷ 9 ∷ 5 ∷ 8 ∷ 9 ∷ [])
    ∷ pooling chain_a chain_a 6 2 gives (0 ∷ 6 ∷ 2 ∷ 4 ∷ steps_a ++ 2 ∷ 1 ∷ 6 ∷ 6 ∷ 7 ∷ 1 ∷ 5 ∷ 8 ∷ [])
    ∷ pool_steps chain_a chain_a 2 (nines 13) gives (steps_a ++ 2 ∷ 1 ∷ 6 ∷ 6 ∷ 7 ∷ 1 ∷ 9 ∷ [])
    -- with case B, in both orders
    ∷ pooling chain_a chain_b 7 2 gives (0 ∷ 7 ∷ 3 ∷ 4 ∷ steps_a ++ 1 ∷ 1 ∷ 2 ∷ 2 ∷ 6 ∷ 1 ∷ 8 ∷ 7 ∷ 5 ∷ 9 ∷ [])
    ∷ pooling chain_b chain_a 7 2 gives (0 ∷ 7 ∷ 3 ∷ 4 ∷ 1 ∷ 1 ∷ 2 ∷ 2 ∷ 3 ∷ 1 ∷ 5 ∷ 4 ∷ 2 ∷ 1 ∷ 7 ∷ 7 ∷ 8 ∷ 1 ∷ 6 ∷ 9 ∷ [])
    -- output 0 and bases, as operands and outputs, keep their numbers
    ∷ pooling chain_a square 4 5 gives (0 ∷ 4 ∷ 2 ∷ 2 ∷ steps_a ++ 2 ∷ 2 ∷ 5 ∷ 0 ∷ 1 ∷ 2 ∷ 6 ∷ [])
    ∷ pooling square square 2 8 gives (0 ∷ 2 ∷ 2 ∷ 0 ∷ 2 ∷ 2 ∷ 2 ∷ 2 ∷ 0 ∷ 1 ∷ 2 ∷ 3 ∷ 0 ∷ 1 ∷ 2 ∷ 4 ∷ [])
    ∷ pooling wide wide 2 4 gives (0 ∷ 2 ∷ 2 ∷ 0 ∷ 16 ∷ 16 ∷ 16 ∷ 16 ∷ 16 ∷ 17 ∷ 16 ∷ 18 ∷ [])
    -- a part without steps: before another it raises nothing, after it nothing is raised
    ∷ pooling stepless chain_a 3 3 gives (0 ∷ 3 ∷ 1 ∷ 2 ∷ steps_a ++ 0 ∷ 2 ∷ 5 ∷ [])
    ∷ pooling chain_a stepless 3 3 gives (0 ∷ 3 ∷ 1 ∷ 2 ∷ steps_a ++ 5 ∷ 0 ∷ 2 ∷ [])
    ∷ pooling stepless stepless 0 4 gives (0 ∷ 0 ∷ 0 ∷ 0 ∷ 0 ∷ 2 ∷ 0 ∷ 2 ∷ [])
    -- the check against both sheets; with an amount of the first and of the second changed
    ∷ checked_pool chain_a chain_b (3 ∷ 2 ∷ 3 ∷ 2 ∷ []) gives (0 ∷ 7 ∷ 3 ∷ 4 ∷ [])
    ∷ checked_pool chain_a chain_b (3 ∷ 1 ∷ 3 ∷ 2 ∷ []) gives (14 ∷ 1 ∷ [])
    ∷ checked_pool chain_a chain_b (3 ∷ 2 ∷ 3 ∷ 1 ∷ []) gives (14 ∷ 2 ∷ [])
    ∷ checked_pool square chain_a (0 ∷ 0 ∷ 1 ∷ 0 ∷ 0 ∷ 1 ∷ 0 ∷ 2 ∷ 3 ∷ 2 ∷ []) gives (0 ∷ 4 ∷ 2 ∷ 2 ∷ [])
    -- an exponent too large in the second part, and in both: 13 at its place in the pool
    ∷ answered (verify_answer 1 (pooled_steps (squarings 2) (squarings 32)) (0 ∷ 0 ∷ []) (0 ∷ 0 ∷ []) 40) gives (13 ∷ 34 ∷ [])
    ∷ answered (verify_answer 1 (pooled_steps (squarings 33) (squarings 32)) (0 ∷ 0 ∷ []) (0 ∷ 0 ∷ []) 80) gives (13 ∷ 32 ∷ [])
    -- the figures of the first, then of the second
    ∷ figures_pool chain_a chain_b 3 gives (0 ∷ 7 ∷ 3 ∷ 4 ∷ 675 ∷ 675 ∷ 9 ∷ [])
    ∷ figures_pool square chain_a 5 gives (0 ∷ 4 ∷ 2 ∷ 2 ∷ 1 ∷ 3 ∷ 5 ∷ 25 ∷ 675 ∷ [])
    ∷ figures_pool chain_a square 5 gives (0 ∷ 4 ∷ 2 ∷ 2 ∷ 675 ∷ 1 ∷ 3 ∷ 5 ∷ 25 ∷ [])
    ∷ []

pub pools_hold : (d : Row) (k : ℕ) → k < length pools → Holds (get_or pools k d)
unfolding pools
pools_hold d k h = rows_hold pools d tt k h
