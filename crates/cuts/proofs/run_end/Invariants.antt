-- All cells so far are below the limit.
use Rattle.std.proofs.Common.{ℕ, ◌+◌, ◌≤◌, ◌<◌, get_or}
use Rattle.cuts.proofs.run_end.Given as goal

abbrev pub invariant-loop-k : goal.invariant-loop-k
invariant-loop-k l = (c : ℕ) → l.i ≤ c → c < l.i + l.k → get_or l.s c 0 < l.limit
