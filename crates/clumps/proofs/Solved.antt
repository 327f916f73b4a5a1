-- By induction on the levels, the two clumpings in turn: each level poses a problem that the rest solves, and its solution solves the level's own.
use mathlib.Core.List.{List, [], ◌∷◌}
use Prim.Native.Nat.{ℕ, ◌≤◌}
use Rattle.chain.specs.declared.Step.{Step}
use Rattle.clumps.specs.Clumps.{Level}
use Rattle.clumps.specs.Levels.{clump_outputs, clump_inputs}
use Rattle.clumps.proofs.Products.{Posed, Solved, picked_solved}
use Rattle.clumps.proofs.Outputs.{outputs_posed, outputs_solved}
use Rattle.clumps.proofs.Inputs.{inputs_posed, inputs_solved}

-- parts and clumps of one member at least
abbrev pub Sizes : List Level → Type 0
Sizes [] = Unit {0}
Sizes (l ∷ levels) = (1 ≤ l.a) × (1 ≤ l.b) × Sizes levels

mutual
  pub clump_outputs_lem : (levels : List Level) → Sizes levels → (p limit : ℕ) (before : List Step) (ins : List ℕ) (y : ℕ → List ℕ) (outs : List (List ℕ))
      → Posed p limit before ins y outs → Solved p limit before y outs (clump_outputs levels p ins outs before)
  clump_outputs_lem [] s p limit before ins y outs posed = picked_solved p limit before ins y outs posed
  clump_outputs_lem (l ∷ levels) s p limit before ins y outs posed =
      outputs_solved l s.0 s.1 p limit before ins y outs posed _
      (clump_inputs_lem levels s.2 p limit before ins y _ (outputs_posed l s.0 s.1 p limit before ins y outs posed))

  pub clump_inputs_lem : (levels : List Level) → Sizes levels → (p limit : ℕ) (before : List Step) (ins : List ℕ) (y : ℕ → List ℕ) (outs : List (List ℕ))
      → Posed p limit before ins y outs → Solved p limit before y outs (clump_inputs levels p ins outs before)
  clump_inputs_lem [] s p limit before ins y outs posed = picked_solved p limit before ins y outs posed
  clump_inputs_lem (l ∷ levels) s p limit before ins y outs posed =
      inputs_solved l s.0 s.1 p limit before ins y outs posed _
      (clump_outputs_lem levels s.2 p limit _ _ _ _ (inputs_posed l s.0 s.1 p limit before ins y outs posed))
