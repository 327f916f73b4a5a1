-- Inner vocabulary: what the functions of this crate ask and leave; nobody has to believe it to believe an entry point's promise.
use Rattle.std.specs.Prelude.{◌≡◌, List, ℕ}
use Rattle.chain.specs.Verdict.{fine}
use Rattle.methods.specs.Inner.{Largest}
use Rattle.quote.specs.ByMethod.{count_rule}

-- cells that hold the columns' largest amounts, for every method that goes by them: all but method 1
pub record MeasuredFor (method p q : ℕ) (amounts cells : List ℕ) : Type 0 where
  pub columns : (method ≡ 1 → ⊥) → Largest p q amounts cells

-- what counting the steps asks: that the sheet, the method and the parameter keep to their rules
pub record QuoteAsked (p q : ℕ) (amounts : List ℕ) (method k : ℕ) (cells : List ℕ) : Type 0 where
  pub passed : count_rule p q amounts method k ≡ fine
  pub measured : MeasuredFor method p q amounts cells
