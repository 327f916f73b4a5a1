-- Refusals of a pool (Spec 10.2, 10.3): each in the first part, in the second and, where it is one, of both together, with its place and the slices as they were;
-- then inputs with two faults at once, one for each two neighbours in the order.
use Rattle.std.specs.Prelude.{List, [], ◌∷◌, ◌++◌, ℕ, ◌<◌, length, get_or, replicate}
use Rattle.chain.specs.Chain.{by}
use Rattle.pool.specs.Pool.{Part, part, pool_answer}
use Rattle.trials.specs.Rows.{Row, ◌gives◌, Holds, rows_hold, answered}
use Rattle.trials.specs.Trials.{nines}
use Rattle.trials.specs.Orders.{too_many}
use Rattle.trials_pool.specs.Pools.{pool_definitions, pooling, chain_a}

-- p columns, one step, or none, and output 0
abbrev pub one_step : ℕ → ℕ → ℕ → Part
one_step p x y = part p (by x y ∷ []) (0 ∷ [])

abbrev pub no_step : ℕ → Part
no_step p = part p [] (0 ∷ [])

-- one column, no step and q times output 0; or the outputs given
abbrev pub payslips : ℕ → Part
payslips q = part 1 [] (replicate q 0)

abbrev pub putting : List ℕ → Part
putting outputs = part 1 [] outputs

-- one column and n times the same step
abbrev pub repeated : ℕ → ℕ → ℕ → Part
repeated n x y = part 1 (replicate n (by x y)) (0 ∷ [])

-- one column and one step more than a chain may have
abbrev pub too_long : ℕ → ℕ → Part
too_long x y = part 1 (too_many x y) (0 ∷ [])

-- the answer alone, with no room at all
abbrev pub found : Part → Part → List ℕ
found a b = answered (pool_answer a b 0 0)

unfoldable pub pool_refusals : List Row
unfolding pool_definitions
pool_refusals =
    -- 1: p and q of the first part; of the second; more than 64 payslips together, and just 64
    pooling (no_step 0) (no_step 1) 1 2 gives (1 ∷ 0 ∷ nines 4)
    ∷ pooling (no_step 17) (no_step 1) 1 2 gives (1 ∷ 0 ∷ nines 4)
    ∷ pooling (payslips 0) (no_step 1) 1 2 gives (1 ∷ 0 ∷ nines 4)
    ∷ pooling (payslips 65) (no_step 1) 1 2 gives (1 ∷ 0 ∷ nines 4)
    ∷ pooling (no_step 1) (no_step 0) 1 2 gives (1 ∷ 0 ∷ nines 4)
    ∷ pooling (no_step 1) (no_step 17) 1 2 gives (1 ∷ 0 ∷ nines 4)
    ∷ pooling (no_step 1) (payslips 0) 1 2 gives (1 ∷ 0 ∷ nines 4)
    ∷ pooling (no_step 1) (payslips 65) 1 2 gives (1 ∷ 0 ∷ nines 4)
    ∷ pooling (payslips 32) (payslips 33) 1 65 gives (1 ∷ 0 ∷ nines 67)
    ∷ pooling (payslips 64) (payslips 1) 1 65 gives (1 ∷ 0 ∷ nines 67)
    ∷ pooling (payslips 32) (payslips 32) 1 64 gives (0 ∷ 0 ∷ 0 ∷ 0 ∷ nines 2 ++ replicate 64 0)
    -- 17: fewer columns in either part
    ∷ pooling (no_step 1) (no_step 2) 1 2 gives (17 ∷ 0 ∷ nines 4)
    ∷ pooling (no_step 2) (no_step 1) 1 2 gives (17 ∷ 0 ∷ nines 4)
    -- 4: the first part, the second, both together; and just 16,000 steps
    ∷ pooling (too_long 1 1) (no_step 1) 1 2 gives (4 ∷ 0 ∷ nines 4)
    ∷ pooling (no_step 1) (too_long 1 1) 1 2 gives (4 ∷ 0 ∷ nines 4)
    ∷ pooling (repeated 8000 1 1) (repeated 8001 1 1) 1 2 gives (4 ∷ 0 ∷ nines 4)
    ∷ answered (pool_answer (repeated 8000 1 1) (repeated 8000 1 1) 16000 2) gives (0 ∷ 16000 ∷ 16000 ∷ 0 ∷ [])
    -- 9, 10, 11: in the first part, then in the second, whose step s has place n + s
    ∷ pooling (one_step 2 1 0) chain_a 4 2 gives (9 ∷ 1 ∷ nines 10)
    ∷ pooling chain_a (one_step 2 1 0) 4 2 gives (9 ∷ 4 ∷ nines 10)
    ∷ pooling chain_a (part 2 (by 1 1 ∷ by 0 1 ∷ []) (0 ∷ [])) 5 2 gives (9 ∷ 5 ∷ nines 12)
    ∷ pooling (one_step 2 3 1) chain_a 4 2 gives (10 ∷ 1 ∷ nines 10)
    ∷ pooling (one_step 2 1 2) chain_a 4 2 gives (11 ∷ 1 ∷ nines 10)
    ∷ pooling chain_a (one_step 2 1 2) 4 2 gives (11 ∷ 4 ∷ nines 10)
    -- a step of the second part that names a value of the first
    ∷ pooling chain_a (one_step 2 3 1) 4 2 gives (10 ∷ 4 ∷ nines 10)
    -- 12: in the first part, then in the second, whose payslip i has place q + i; an output of the second part that names a value of the first
    ∷ pooling (putting (0 ∷ 2 ∷ [])) (no_step 1) 1 3 gives (12 ∷ 2 ∷ nines 5)
    ∷ pooling (payslips 3) (putting (1 ∷ 2 ∷ [])) 1 5 gives (12 ∷ 5 ∷ nines 7)
    ∷ pooling (one_step 1 1 1) (putting (2 ∷ [])) 1 2 gives (12 ∷ 2 ∷ nines 4)
    -- 5: a pair and an output fewer than the pool has
    ∷ pooling chain_a chain_a 5 2 gives (5 ∷ 0 ∷ nines 12)
    ∷ pooling chain_a chain_a 6 1 gives (5 ∷ 0 ∷ nines 13)
    -- 1 before 17, by the first part, by the second and by both together
    ∷ found (no_step 0) (no_step 1) gives (1 ∷ 0 ∷ [])
    ∷ found (no_step 2) (payslips 65) gives (1 ∷ 0 ∷ [])
    ∷ found (payslips 33) (part 2 [] (replicate 32 0)) gives (1 ∷ 0 ∷ [])
    -- 17 before 4, by either part and by both together
    ∷ found (too_long 1 1) (no_step 2) gives (17 ∷ 0 ∷ [])
    ∷ found (no_step 2) (too_long 1 1) gives (17 ∷ 0 ∷ [])
    ∷ found (repeated 16000 1 1) (one_step 2 1 1) gives (17 ∷ 0 ∷ [])
    -- 4 before the steps: of the first part, of the second and of both together, with a fault in the first step of all
    ∷ found (too_long 1 0) (no_step 1) gives (4 ∷ 0 ∷ [])
    ∷ found (one_step 1 1 0) (too_long 1 1) gives (4 ∷ 0 ∷ [])
    ∷ found (repeated 8001 1 0) (repeated 8000 1 1) gives (4 ∷ 0 ∷ [])
    -- the steps of the first part before those of the second
    ∷ found (one_step 2 1 2) (one_step 2 1 0) gives (11 ∷ 1 ∷ [])
    -- the steps of the second part before 12 of the first
    ∷ found (part 1 (by 1 1 ∷ []) (3 ∷ [])) (one_step 1 1 0) gives (9 ∷ 2 ∷ [])
    -- 12 of the first part before 12 of the second
    ∷ found (putting (0 ∷ 2 ∷ [])) (putting (2 ∷ [])) gives (12 ∷ 2 ∷ [])
    -- 12 of either part before 5
    ∷ found (putting (2 ∷ [])) (no_step 1) gives (12 ∷ 1 ∷ [])
    ∷ found (no_step 1) (putting (2 ∷ [])) gives (12 ∷ 2 ∷ [])
    ∷ []

pub refusals_hold : (d : Row) (k : ℕ) → k < length pool_refusals → Holds (get_or pool_refusals k d)
unfolding pool_refusals
refusals_hold d k h = rows_hold pool_refusals d tt k h
