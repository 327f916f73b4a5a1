-- Inner vocabulary: what the functions that write ask of a chain and its shape, and leave. Nobody has to believe it to believe an entry point's promise.
use Rattle.std.specs.Prelude.{◌≡◌, List, ℕ, ◌/◌, ◌≤◌, length}
use Rattle.chain.specs.Verdict.{fine, Answer}
use Rattle.chain.specs.Chain.{pairs}
use Rattle.layout.specs.declared.Layout.{Layout}
use Rattle.layout.specs.declared.Extent.{Extent}
use Rattle.layout.specs.File.{write_rule, write_answer, write_bytes}
use Rattle.layout.specs.Inner.{SoundLayout, LayoutHolds, extent_of}

-- a header that may be put into bytes
pub record HeaderFill (L : Layout) (s : Extent) (bytes : List ℕ) : Type 0 where
  pub holds : LayoutHolds L s.p s.q s.n
  pub q_some : 1 ≤ s.q
  pub room : 4 ≤ length bytes

-- a chain that may be written, and its shape
pub record ToWrite (L : Layout) (s : Extent) (l o : List ℕ) (lent : ℕ) : Type 0 where
  pub sound : SoundLayout L
  pub extent : s ≡ extent_of L s.p (length o) (length l / 2)
  pub accepted : write_rule L s.p (pairs l) o lent ≡ fine

-- what writing in a layout answers and leaves
pub record Wrote (L : Layout) (p : ℕ) (l o old : List ℕ) (a : Answer) (new : List ℕ) : Type 0 where
  pub answered : a ≡ write_answer L p (pairs l) o (length old)
  pub left : new ≡ write_bytes L p (pairs l) o old
