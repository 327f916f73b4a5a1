-- Inner vocabulary: what the functions of this crate ask. Nobody has to believe it to believe an entry point's promise.
use Rattle.std.specs.Prelude.{List, ℕ, ◌*◌, ◌≤◌, length}
use Rattle.packed.specs.Field.{field_bytes}

-- what storing the amounts of m fields asks: the fields' bytes, and a cell for each amount
pub record StoreAsked (bytes : List ℕ) (m : ℕ) (amounts : List ℕ) : Type 0 where
  pub there : field_bytes * m ≤ length bytes
  pub room : m ≤ length amounts
