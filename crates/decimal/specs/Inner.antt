-- Inner vocabulary: what a function that writes a part of a text leaves. Nobody has to believe it to believe an entry point's promise.
use Rattle.std.specs.Prelude.{◌≡◌, List, ℕ, ◌+◌, ◌≤◌, length}
use Rattle.chain.specs.Written.{laid}

-- the part stands in the text from a place on, all else is as it was, and `end` is the place after it
pub record Put (at : ℕ) (part old : List ℕ) (end : ℕ) (new : List ℕ) : Type 0 where
  pub place : end ≡ at + length part
  pub text : new ≡ laid at part old

-- a part so put that has at most so many bytes
pub record PutShort (most at : ℕ) (part old : List ℕ) (end : ℕ) (new : List ℕ) : Type 0 where
  pub put : Put at part old end new
  pub short : end ≤ at + most
