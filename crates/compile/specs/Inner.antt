-- Inner vocabulary: what the functions of this crate ask and leave; nobody has to believe it to believe an entry point's promise.
use Rattle.std.specs.Prelude.{◌≡◌, List, ℕ}
use Rattle.chain.specs.Verdict.{fine}
use Rattle.quote.specs.Inner.{MeasuredFor}
use Rattle.compile.specs.Compile.{accepted_rule}

-- what emitting the chain asks: that the sheet, the method and the parameter are accepted together
pub record EmitAsked (p q : ℕ) (amounts : List ℕ) (method k : ℕ) (cells : List ℕ) : Type 0 where
  pub accepted : accepted_rule p q amounts method k ≡ fine
  pub measured : MeasuredFor method p q amounts cells
