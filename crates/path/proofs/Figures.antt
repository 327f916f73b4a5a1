-- A chain that passes the check has its payslips as exponents, so its residues are the products of powers, whoever made it.
use mathlib.Core.Path.{◌≡◌}
use mathlib.Core.List.{List}
use Prim.Native.Nat.{ℕ, ◌<◌}
use lib.ListN.{length, get_or}
use Rattle.chain.specs.Verdict.{fine}
use Rattle.chain.specs.Chain.{pick}
use Rattle.chain.specs.declared.Step.{Step}
use Rattle.residue.specs.Residue.{figure}
use Rattle.verify.specs.Verify.{verify_rule}
use Rattle.verify.proofs.Passing.{verify_passes}
use Rattle.run.specs.Run.{residues, run_rule}
use Rattle.run.proofs.Runnable.{runnable}
use Rattle.run.proofs.Residues.{figure_law}

-- figure i of the run is the product of the bases raised to payslip i's amounts, reduced by the modulus
pub checked_figures : (p : ℕ) (steps : List Step) (outputs amounts : List ℕ) (scratch m : ℕ) (bases : List ℕ) (room places : ℕ)
    → verify_rule p steps outputs amounts scratch ≡ fine → run_rule p steps outputs m bases room places ≡ fine
    → (i : ℕ) → i < length outputs → get_or (pick (residues m bases steps) outputs) i 0 ≡ figure p m bases amounts i
checked_figures p steps outputs amounts scratch m bases room places passed runs i h =
    let a = runnable p steps outputs m bases room places runs in
    figure_law p m bases steps a.bases_are_p a.bases_low a.steps_fine outputs amounts i h
    ((verify_passes p steps outputs amounts scratch passed).made i h)
