-- An output of the pool is one of the first part, or one of the second renumbered.
use mathlib.Core.Path.{◌≡◌, ap, sym, ◌∙◌}
use mathlib.Core.List.{List, map}
use Prim.Native.Nat.{ℕ, ◌+◌, ◌-◌, ◌≤◌, ◌<◌}
use native.Mathlib.Decide.{dec_lt}
use native.Mathlib.Omega.{arith}
use lib.ListN.{length, get_or, length-append, length-map, get_or-append, get_or-map}
use lib.Seq.{get_or-append-add}
use Rattle.pool.specs.Pool.{renumbered}
use Rattle.pool.proofs.Numbers.{renumbered_start}
use Rattle.pool_laws.proofs.Renumbered.{joined_outputs, renumbered_between}

module _ (p n : ℕ) (outputs outputs' : List ℕ) where
  pub output_second : (i : ℕ) → get_or (joined_outputs p n outputs outputs') (length outputs + i) 0 ≡ renumbered p n (get_or outputs' i 0)
  output_second i =
      get_or-append-add outputs (map (renumbered p n) outputs') i 0
      ∙ ap (get_or (map (renumbered p n) outputs') i) (sym (renumbered_start p n 0 (omega arith)))
      ∙ get_or-map (renumbered p n) outputs' i 0

  -- none is above the last value, if no output of a part is above that of its own part
  pub outputs_pooled : (top top' : ℕ) → top ≤ top' + n → ((i : ℕ) → i < length outputs → get_or outputs i 0 ≤ top)
      → ((i : ℕ) → i < length outputs' → get_or outputs' i 0 ≤ top')
      → (i : ℕ) → i < length (joined_outputs p n outputs outputs') → get_or (joined_outputs p n outputs outputs') i 0 ≤ top' + n
  outputs_pooled top top' lower low low' i h = by_part (dec_lt i (length outputs))
    where
      by_part : Dec (i < length outputs) → get_or (joined_outputs p n outputs outputs') i 0 ≤ top' + n
      by_part (yes lt) = omega (arith, get_or-append outputs (map (renumbered p n) outputs') 0 i lt, low i lt)
      by_part (no ge) =
          let k : ℕ = i - length outputs in
          let e : i ≡ length outputs + k = omega arith in
          let inside : k < length outputs' = omega (arith, simp (length-append, length-map) at h) in
          rw (e, output_second k) (omega (arith, (renumbered_between p n (get_or outputs' k 0)).1, low' k inside))
