-- A cell of the part that is looked through is a cell of the slice; the first at the limit or above ends the run.
use Rattle.std.proofs.Common.{◌≡◌, ℕ, List, ◌+◌, ◌-◌, ◌≤◌, ◌<◌, get_or, take, drop, arith, ◌∙◌}
use native.Mathlib.Decide.{dec_lt}
use Rattle.std.proofs.Math.Seq.{get_or-drop, get_or-take}
use Rattle.cuts.proofs.run_end.Goals as goal

part_cell : (s : List ℕ) (i to k : ℕ) → k < to - i → get_or (take (to - i) (drop i s)) k 0 ≡ get_or s (i + k) 0
part_cell s i to k h = get_or-take (to - i) (drop i s) k 0 h ∙ get_or-drop i s k 0

more : (s : List ℕ) (i limit k : ℕ) → ((c : ℕ) → i ≤ c → c < i + k → get_or s c 0 < limit) → get_or s (i + k) 0 < limit
    → (c : ℕ) → i ≤ c → c < i + (k + 1) → get_or s c 0 < limit
more s i limit k all last c h g = by_place (dec_lt c (i + k))
  where
    by_place : Dec (c < i + k) → get_or s c 0 < limit
    by_place (yes lt) = all c h lt
    by_place (no ge) = let q : c ≡ i + k = omega arith in rw q last

pub loop-k-preserved : goal.loop-k-preserved
loop-k-preserved c =
    let a = c.args in
    let cell = part_cell a.s.now a.i a.to c.loop-k.k (omega arith) in
    more a.s.now a.i a.limit c.loop-k.k c.loop-k.invariant (omega (arith, cell))

pub returns-then-limit-x : goal.returns-then-limit-x
returns-then-limit-x c =
    let a = c.args in
    let cell = part_cell a.s.now a.i a.to c.loop-k.k (omega arith) in
    record { after = omega arith; within = omega arith; below = c.loop-k.invariant; stops = λ h. omega (arith, cell) }
