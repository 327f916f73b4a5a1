-- Cleared cells are zeros over the front of what was there.
use mathlib.Core.Path.{◌≡◌, ap, ◌∙◌}
use mathlib.Core.List.{List, ◌++◌}
use Prim.Native.Nat.{ℕ, ◌≤◌}
use lib.ListN.{length, take, drop, replicate, length-replicate}
use lib.Seq.{length-take-le}
use Rattle.chain.specs.Written.{over}

pub zeros_over : (n : ℕ) (zeros old : List ℕ) → n ≤ length old → zeros ≡ replicate (length (take n old)) 0 → zeros ++ drop n old ≡ over (replicate n 0) old
unfolding over
zeros_over n zeros old h e =
    let front : zeros ≡ replicate n 0 = e ∙ ap (λ (k : ℕ). replicate k 0) (length-take-le n old h) in
    rw (front, length-replicate {A = ℕ} n 0)
