-- What is asked of a method: its chain is legal, each output makes its payslip, no exponent is too large, and its steps are as many as its count,
-- which keeps to its ceiling. All but count and ceiling come from payslips that were made one after the other.
use mathlib.Core.Path.{◌≡◌}
use mathlib.Core.List.{List}
use Prim.Native.Nat.{ℕ, ◌+◌, ◌≤◌, ◌<◌}
use lib.ListN.{length, get_or}
use Rattle.chain.specs.Verdict.{fine}
use Rattle.chain.specs.Chain.{most_amount, steps_rule, outputs_rule}
use Rattle.chain.specs.declared.Step.{Step}
use Rattle.chain.proofs.Exponents.{Makes, Within}
use Rattle.sheet.specs.Sheet.{amount}
use Rattle.methods.specs.Method.{Method}
use Rattle.methods.proofs.Payslips.{Pays, pays_legal}

pub record Right (p q : ℕ) (amounts : List ℕ) (m : Method) : Type 0 where
  pub steps_legal : steps_rule p 1 m.chain.steps ≡ fine
  pub outputs_legal : outputs_rule (p + length m.chain.steps) 1 m.chain.outputs ≡ fine
  pub makes : (i : ℕ) → i < q → Makes p m.chain.steps (get_or m.chain.outputs i 0) (amount p amounts i)
  pub within : Within p m.chain.steps most_amount
  pub outputs : length m.chain.outputs ≡ q
  pub counted : length m.chain.steps ≡ m.count
  pub limited : m.count ≤ m.ceiling

pub pays_right : {p q : ℕ} {amounts : List ℕ} {start : List Step} (m : Method) → Pays p most_amount start (amount p amounts) q m.chain
    → length m.chain.steps ≡ m.count → m.count ≤ m.ceiling → Right p q amounts m
pays_right m pays counted limited =
    record {
      steps_legal = pays.sound.legal;
      outputs_legal = pays_legal pays;
      makes = pays.makes;
      within = pays.sound.within;
      outputs = pays.outputs;
      counted = counted;
      limited = limited;
    }
