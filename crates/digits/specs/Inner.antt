-- Inner vocabulary: what functions that count ask and leave; nobody has to believe it to believe an entry point's promise.
use Rattle.std.specs.Prelude.{◌≡◌, ℕ, ◌≤◌, ◌<◌}

-- what counting digits in base 2^k asks
pub record CountAsked (k : ℕ) : Type 0 where
  pub k_some : 0 < k
  pub k_low : k < 32

-- r is x, and x is not large
pub record Bounded (r x most : ℕ) : Type 0 where
  pub is : r ≡ x
  pub low : r ≤ most
