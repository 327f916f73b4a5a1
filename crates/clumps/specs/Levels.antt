-- Clumping of outputs and of inputs (Req 06). A problem has inputs, given by their value numbers, and outputs, each the rising list of its inputs'
-- indices; a chain that solves it makes every output's product, one output of the chain for each.
use mathlib.Core.List.{List, [], ◌∷◌, ◌++◌, map}
use Rattle.std.specs.Prelude.{ℕ, ◌+◌, get_or}
use Rattle.std.proofs.Math.ListN.{length}
use Rattle.chain.specs.Chain.{Chain, pick}
use Rattle.chain.specs.declared.Step.{Step}
use Rattle.digits.specs.Range.{list_to}
use Rattle.products.specs.Product.{Made, made, times, payslips}
use Rattle.clumps.specs.Lists.{which, having, holds}
use Rattle.clumps.specs.Clumps.{Level, clumps_of, overflow_of, clumps_in}

-- the values multiplied in order
abbrev pub product : ℕ → Made → List ℕ → Made
product p m [] = m
product p m (v ∷ r) = product p (times p m v) r

-- Req 06: products made separately, in order
abbrev pub products : ℕ → List (List ℕ) → List Step → Chain
products p lists before = payslips (λ j done. product p (made done 0) (get_or lists j [])) before (length lists)

-- Req 06: no level is left
abbrev pub separately : ℕ → List ℕ → List (List ℕ) → List Step → Chain
separately p ins outs before = products p (map (pick ins) outs) before

-- a level of output clumping, of n inputs
module _ (l : Level) (n : ℕ) (outs : List (List ℕ)) where
  -- Req 06: the clumps and the overflow of each input's outputs
  unfoldable pub output_cut : List (List (List ℕ))
  unfolding clumps_of
  output_cut = list_to n (λ i. clumps_of l (length outs) (having outs i))

  unfoldable pub output_rest : List (List ℕ)
  unfolding overflow_of
  output_rest = list_to n (λ i. overflow_of l (length outs) (having outs i))

  -- Req 06: the output clumps are the next level's outputs, over the same inputs: those that have the clump
  unfoldable pub next_outputs : List (List ℕ)
  unfolding output_cut
  next_outputs =
      let cut = output_cut in
      let clumps = clumps_in cut in
      list_to (length clumps) (λ x. which (λ i. holds (get_or clumps x []) (get_or cut i [])) n)

  -- Req 06: what an output is the product of: its clumps, whose values are made, by rising members, and then its overflow, by rising inputs
  unfoldable pub factors : List ℕ → List ℕ → List (List ℕ)
  unfolding output_cut output_rest
  factors ins made =
      let clumps = clumps_in output_cut in
      let rest = output_rest in
      list_to (length outs) (λ j. pick made (having clumps j) ++ pick ins (having rest j))

-- a level of input clumping, of n inputs
module _ (l : Level) (n : ℕ) (outs : List (List ℕ)) where
  -- Req 06: the clumps of each output's inputs
  unfoldable pub input_cut : List (List (List ℕ))
  unfolding clumps_of
  input_cut = list_to (length outs) (λ j. clumps_of l n (get_or outs j []))

  -- Req 06: the outputs over the next level's inputs, which are the clumps and then all inputs as they were
  unfoldable pub next_inputs : List (List ℕ)
  unfolding overflow_of input_cut
  next_inputs =
      let cut = input_cut in
      let clumps = clumps_in cut in
      list_to (length outs) (λ j.
      which (λ x. holds (get_or clumps x []) (get_or cut j [])) (length clumps) ++ map (λ i. length clumps + i) (overflow_of l n (get_or outs j [])))

-- Req 06: the two clumpings call each other in turn until no level is left
abbrev mutual
  pub clump_outputs : List Level → ℕ → List ℕ → List (List ℕ) → List Step → Chain
  clump_outputs [] p ins outs before = separately p ins outs before
  clump_outputs (l ∷ levels) p ins outs before =
      let inner = clump_inputs levels p ins (next_outputs l (length ins) outs) before in
      products p (factors l (length ins) outs ins inner.outputs) inner.steps

  -- Req 06: input clumps are made as products, in order, before the next level
  pub clump_inputs : List Level → ℕ → List ℕ → List (List ℕ) → List Step → Chain
  clump_inputs [] p ins outs before = separately p ins outs before
  clump_inputs (l ∷ levels) p ins outs before =
      let done = separately p ins (clumps_in (input_cut l (length ins) outs)) before in
      clump_outputs levels p (done.outputs ++ ins) (next_inputs l (length ins) outs) done.steps
