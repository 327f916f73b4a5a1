-- Small sheets by every method and every legal parameter that stays small. On each the chain passes the check, has as many steps as the
-- method's count, the count keeps to the ceiling, and reading the chain's file gives the chain: a row lists what was found against that.
use Rattle.std.specs.Prelude.{Bool, true, false, List, [], ◌∷◌, ◌++◌, ℕ, zero, suc, ◌+◌, ◌<◌, length, get_or}
use Rattle.chain.specs.Tests.{◌≤?◌, ◌=?◌}
use Rattle.chain.specs.Verdict.{Verdict, fine, refused}
use Rattle.chain.specs.Chain.{Chain, flat}
use Rattle.verify.specs.Verify.{verify_rule}
use Rattle.layout.specs.Layout.{edition1}
use Rattle.layout.specs.File.{file_of, steps_of, outputs_of, read_rule}
use Rattle.parameters.specs.Parameters.{method_rule}
use Rattle.quote.specs.ByMethod.{chain_of, count, ceiling}
use Rattle.trials.specs.Rows.{Row, ◌gives◌, Holds, rows_hold, same, definitions}

-- a code where something is wrong
abbrev pub unless : Bool → ℕ → List ℕ
unless true code = []
unless false code = code ∷ []

abbrev pub against : Verdict → List ℕ
against fine = []
against (refused n s) = n ∷ s ∷ []

abbrev pub same_chain : List ℕ → Chain → List ℕ
same_chain bytes c = unless (same (flat (steps_of edition1 bytes) ++ outputs_of edition1 bytes) (flat c.steps ++ c.outputs)) 103

-- what is wrong with the chain c of a method with this count and ceiling
abbrev pub faults : ℕ → List ℕ → Chain → ℕ → ℕ → List ℕ
faults p amounts c n most =
    let bytes = file_of edition1 p c.steps c.outputs in
    against (verify_rule p c.steps c.outputs amounts (p + length c.steps + 1))
    ++ unless (length c.steps =? n) 101
    ++ unless (n ≤? most) 102
    ++ against (read_rule edition1 bytes (length c.steps) (length c.outputs))
    ++ same_chain bytes c

-- with parameter k, if that is legal and the chain stays small
abbrev pub with_parameter : ℕ → ℕ → List ℕ → ℕ → ℕ → List ℕ
with_parameter p q amounts method k =
    elim (method_rule p method k) [
      | fine ↦
          elim (count p q amounts method k ≤? 70) [
            | true ↦ faults p amounts (chain_of p q amounts method k) (count p q amounts method k) (ceiling p q amounts method k)
            | false ↦ []
          ]
      | refused n s ↦ []
    ]

-- with each parameter up to k
abbrev pub with_each : ℕ → ℕ → List ℕ → ℕ → ℕ → List ℕ
with_each p q amounts method zero = []
with_each p q amounts method (suc k) = with_each p q amounts method k ++ with_parameter p q amounts method (suc k)

-- by all methods
abbrev pub sample : ℕ → ℕ → List ℕ → Row
sample p q amounts =
    (with_each p q amounts 1 5 ++ with_each p q amounts 2 8 ++ with_each p q amounts 3 8) gives []

unfoldable pub samples : List Row
unfolding definitions
samples =
    sample 1 1 (0 ∷ [])
    ∷ sample 1 1 (1 ∷ [])
    ∷ sample 1 1 (11 ∷ [])
    ∷ sample 1 3 (16 ∷ 15 ∷ 16 ∷ [])
    ∷ sample 1 2 (4294967295 ∷ 2147483648 ∷ [])
    ∷ sample 2 1 (3 ∷ 2 ∷ [])
    ∷ sample 2 1 (7 ∷ 12 ∷ [])
    ∷ sample 2 2 (0 ∷ 9 ∷ 0 ∷ 4 ∷ [])
    ∷ sample 2 3 (5 ∷ 0 ∷ 0 ∷ 0 ∷ 7 ∷ 12 ∷ [])
    ∷ sample 3 2 (0 ∷ 100 ∷ 37 ∷ 0 ∷ 64 ∷ 5 ∷ [])
    ∷ sample 3 2 (1 ∷ 1 ∷ 1 ∷ 1 ∷ 1 ∷ 1 ∷ [])
    ∷ sample 4 2 (8 ∷ 0 ∷ 3 ∷ 1 ∷ 0 ∷ 0 ∷ 0 ∷ 2 ∷ [])
    ∷ sample 5 1 (1 ∷ 2 ∷ 3 ∷ 4 ∷ 5 ∷ [])
    ∷ []

pub samples_hold : (d : Row) (k : ℕ) → k < length samples → Holds (get_or samples k d)
unfolding samples
samples_hold d k h = rows_hold samples d tt k h
