-- The worked examples A to H (Spec 11), as one table over the definitions.
use Rattle.std.specs.Prelude.{List, [], ◌∷◌, ◌++◌, ℕ, zero, suc, ◌+◌, ◌^◌, ◌<◌, length, get_or, replicate}
use Rattle.chain.specs.Chain.{by, pairs}
use Rattle.chain.specs.declared.Step.{Step}
use Rattle.residue.specs.Residue.{figure}
use Rattle.verify.specs.Verify.{verify_answer, verify_scratch}
use Rattle.run.specs.Run.{run_answer, run_values, run_figures}
use Rattle.layout.specs.Layout.{edition1}
use Rattle.layout.specs.File.{write_answer, write_bytes, read_answer, read_steps, read_outputs}
use Rattle.quote.specs.ByMethod.{count, ceiling}
use Rattle.compile.specs.Compile.{compile_answer, compile_steps, compile_outputs}
use Rattle.listing.specs.Listing.{listing}
use Rattle.trials.specs.Rows.{Row, ◌gives◌, Holds, rows_hold, answered, definitions}

-- the numbers of a lent slice before a call: 9 everywhere
abbrev pub nines : ℕ → List ℕ
nines n = replicate n 9

-- what compile makes of a sheet of one payslip: the answer, the steps in turn, the output; the slices have one cell more than is needed
module _ (p : ℕ) (amounts : List ℕ) (method k n : ℕ) where
  abbrev pub compiled : List ℕ
  compiled =
      answered (compile_answer p 1 amounts method k n 1)
      ++ compile_steps p 1 amounts method k 1 (nines (n + n + 1))
      ++ compile_outputs p 1 amounts method k n (nines 2)

  -- the count and the ceiling
  abbrev pub counted : List ℕ
  counted = count p 1 amounts method k ∷ ceiling p 1 amounts method k ∷ []

-- the file of steps in turn and outputs, in a slice of n bytes
abbrev pub written : ℕ → List ℕ → List ℕ → ℕ → List ℕ
written p steps outputs n = answered (write_answer edition1 p (pairs steps) outputs n) ++ write_bytes edition1 p (pairs steps) outputs (nines n)

-- what is read back of it, into n pairs and two outputs
abbrev pub read_back : List ℕ → ℕ → List ℕ
read_back bytes n = answered (read_answer edition1 bytes n 2) ++ read_steps edition1 bytes 2 (nines (n + n)) ++ read_outputs edition1 bytes n (nines 2)

-- the check of steps and one output, with one number of scratch more than is needed
abbrev pub checked : ℕ → List ℕ → List Step → ℕ → List ℕ
checked p amounts steps output =
    answered (verify_answer p steps (output ∷ []) amounts (p + length steps + 2))
    ++ verify_scratch p steps (output ∷ []) amounts (nines (p + length steps + 2))

-- the run of steps and one output: the answer, the values and the figures
abbrev pub ran : ℕ → List ℕ → ℕ → ℕ → List ℕ → List ℕ
ran p steps output m bases =
    answered (run_answer p (pairs steps) (output ∷ []) m bases 9 2)
    ++ run_values p (pairs steps) (output ∷ []) m bases 2 (nines 9)
    ++ run_figures p (pairs steps) (output ∷ []) m bases 9 (nines 2)

-- 2n steps, to the exponent 2^(n + 1) − 1 by doubling and adding 1 in turn
abbrev pub ones : ℕ → List Step
ones zero = []
ones (suc n) = ones n ++ by (n + n + 1) (n + n + 1) ∷ by (n + n + 2) 1 ∷ []

-- n squarings in a row, from value 1
abbrev pub doublings : ℕ → List Step
doublings zero = []
doublings (suc n) = doublings n ++ by (suc n) (suc n) ∷ []

abbrev pub sheet_a : List ℕ
sheet_a = 3 ∷ 2 ∷ []

abbrev pub steps_a : List ℕ
steps_a = 2 ∷ 1 ∷ 3 ∷ 3 ∷ 4 ∷ 1 ∷ []

abbrev pub file_a : List ℕ
file_a = 0x11 ∷ 0x00 ∷ 0x00 ∷ 0x34 ∷ 0x5b ∷ 0x86 ∷ 0x80 ∷ []

-- case G's chain for 63
abbrev pub steps_g : List Step
steps_g = pairs (1 ∷ 1 ∷ 2 ∷ 1 ∷ 3 ∷ 2 ∷ 4 ∷ 2 ∷ 5 ∷ 5 ∷ 6 ∷ 6 ∷ 7 ∷ 7 ∷ 8 ∷ 5 ∷ [])

unfoldable pub trials : List Row
unfolding definitions
trials =
    -- A: Straus 1 on (3,2): pairs (2,1) (3,3) (4,1), output 5
    compiled 2 sheet_a 1 1 3 gives (0 ∷ 3 ∷ 1 ∷ 2 ∷ 2 ∷ 1 ∷ 3 ∷ 3 ∷ 4 ∷ 1 ∷ 9 ∷ 5 ∷ 9 ∷ [])
    ∷ counted 2 sheet_a 1 1 3 gives (3 ∷ 3 ∷ [])
    -- its file as listed, and read back; its check; 675 modulo 1,000 for bases 3 and 5
    ∷ written 2 steps_a (5 ∷ []) 8 gives (0 ∷ 7 ∷ file_a ++ 9 ∷ [])
    ∷ read_back file_a 4 gives (0 ∷ 2 ∷ 1 ∷ 3 ∷ 1 ∷ 2 ∷ 2 ∷ 1 ∷ 3 ∷ 3 ∷ 4 ∷ 1 ∷ 9 ∷ 9 ∷ 5 ∷ 9 ∷ [])
    ∷ checked 2 sheet_a (pairs steps_a) 5 gives (0 ∷ 3 ∷ 1 ∷ 2 ∷ 0 ∷ 0 ∷ 0 ∷ 0 ∷ 0 ∷ 0 ∷ 9 ∷ [])
    ∷ ran 2 steps_a 5 1000 (3 ∷ 5 ∷ []) gives (0 ∷ 3 ∷ 1 ∷ 2 ∷ 1 ∷ 3 ∷ 5 ∷ 15 ∷ 225 ∷ 675 ∷ 9 ∷ 9 ∷ 9 ∷ 675 ∷ 9 ∷ [])
    ∷ (figure 2 1000 (3 ∷ 5 ∷ []) sheet_a 0 ∷ []) gives (675 ∷ [])
    -- and its listing, "2 1 3" and "1 3 2"
    ∷ listing file_a gives (50 ∷ 32 ∷ 49 ∷ 32 ∷ 51 ∷ 10 ∷ 49 ∷ 32 ∷ 51 ∷ 32 ∷ 50 ∷ 10 ∷ [])
    -- B: the same, Yao 1
    ∷ compiled 2 sheet_a 2 1 4 gives (0 ∷ 4 ∷ 2 ∷ 2 ∷ 1 ∷ 1 ∷ 2 ∷ 2 ∷ 3 ∷ 1 ∷ 5 ∷ 4 ∷ 9 ∷ 6 ∷ 9 ∷ [])
    ∷ counted 2 sheet_a 2 1 4 gives (4 ∷ 5 ∷ [])
    -- C: the same, partition 2
    ∷ compiled 2 sheet_a 3 2 5 gives (0 ∷ 5 ∷ 2 ∷ 3 ∷ 1 ∷ 1 ∷ 2 ∷ 2 ∷ 3 ∷ 1 ∷ 4 ∷ 2 ∷ 5 ∷ 4 ∷ 9 ∷ 7 ∷ 9 ∷ [])
    ∷ counted 2 sheet_a 3 2 5 gives (5 ∷ 5 ∷ [])
    -- D: 11, Brauer 2
    ∷ compiled 1 (11 ∷ []) 1 2 5 gives (0 ∷ 5 ∷ 3 ∷ 2 ∷ 1 ∷ 1 ∷ 2 ∷ 1 ∷ 2 ∷ 2 ∷ 4 ∷ 4 ∷ 5 ∷ 3 ∷ 9 ∷ 6 ∷ 9 ∷ [])
    ∷ counted 1 (11 ∷ []) 1 2 5 gives (5 ∷ 5 ∷ [])
    -- E: 11, Yao 2
    ∷ compiled 1 (11 ∷ []) 2 2 5 gives (0 ∷ 5 ∷ 2 ∷ 3 ∷ 1 ∷ 1 ∷ 2 ∷ 2 ∷ 3 ∷ 1 ∷ 4 ∷ 1 ∷ 5 ∷ 4 ∷ 9 ∷ 6 ∷ 9 ∷ [])
    ∷ counted 1 (11 ∷ []) 2 2 5 gives (5 ∷ 5 ∷ [])
    -- F: a payslip of zeros has output 0, and the figure of the empty product for any modulus
    ∷ compiled 1 (0 ∷ []) 1 1 0 gives (0 ∷ 0 ∷ 0 ∷ 0 ∷ 9 ∷ 0 ∷ 9 ∷ [])
    ∷ counted 1 (0 ∷ []) 1 1 0 gives (0 ∷ 0 ∷ [])
    ∷ ran 1 [] 0 1000 (3 ∷ []) gives (0 ∷ 0 ∷ 0 ∷ 0 ∷ 1 ∷ 3 ∷ 9 ∷ 9 ∷ 9 ∷ 9 ∷ 9 ∷ 9 ∷ 9 ∷ 1 ∷ 9 ∷ [])
    ∷ ran 1 [] 0 1 (0 ∷ []) gives (0 ∷ 0 ∷ 0 ∷ 0 ∷ 0 ∷ 0 ∷ 9 ∷ 9 ∷ 9 ∷ 9 ∷ 9 ∷ 9 ∷ 9 ∷ 0 ∷ 9 ∷ [])
    ∷ (figure 1 1000 (3 ∷ []) (0 ∷ []) 0 ∷ figure 1 1 (0 ∷ []) (0 ∷ []) 0 ∷ []) gives (1 ∷ 0 ∷ [])
    -- G: a chain whoever made it, output 9, passes for 63
    ∷ checked 1 (63 ∷ []) steps_g 9 gives (0 ∷ 8 ∷ 4 ∷ 4 ∷ replicate 10 0 ++ 9 ∷ [])
    -- H: squarings in a row, up to the last exponent that is allowed and one further
    ∷ checked 1 (2 ^ 31 ∷ []) (doublings 31) 32 gives (0 ∷ 31 ∷ 31 ∷ 0 ∷ replicate 33 0 ++ 9 ∷ [])
    ∷ checked 1 (2 ^ 31 ∷ []) (doublings 32) 32 gives (13 ∷ 32 ∷ replicate 34 0 ++ 9 ∷ [])
    ∷ []

pub trials_hold : (d : Row) (k : ℕ) → k < length trials → Holds (get_or trials k d)
unfolding trials
trials_hold d k h = rows_hold trials d tt k h
