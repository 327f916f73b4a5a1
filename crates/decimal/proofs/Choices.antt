-- A definition that chooses by tests is what the code returns, once each test is decided.
use mathlib.Core.Path.{◌≡◌}
use mathlib.Core.Bool.{Bool, true, false, cond}
use Rattle.chain.proofs.Rules.{tests}

module _ {A : Type 0} (t : Bool) (r x y : A) where
  pub choose_yes : t ≡ true → r ≡ x → r ≡ cond t x y
  choose_yes e f = rw e f

  pub choose_no : t ≡ false → r ≡ y → r ≡ cond t x y
  choose_no e f = rw e f

pub ruleset choosing = (choose_yes, choose_no, tests)
