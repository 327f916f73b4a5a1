-- From the answer of `write` its verdict is read back; where it is done, the bytes counted are the file, at the front of what was lent.
use mathlib.Core.Path.{◌≡◌, refl, sym, ap, ◌∙◌}
use mathlib.Core.List.{List, [], ◌∷◌}
use Prim.Native.Nat.{ℕ, ◌≤◌}
use native.Mathlib.Omega.{arith}
use lib.ListN.{length, get_or, take}
use Rattle.chain.specs.Verdict.{fine, refused, done, refusal}
use Rattle.chain.specs.Written.{over}
use Rattle.chain.specs.declared.Step.{Step}
use Rattle.chain.proofs.Rules.{renewed, then_fine, refuse_if_fine, not_lt}
use Rattle.chain.proofs.Told.{told, told_values_lem}
use Rattle.chain.proofs.Written.{take-over, over-length}
use Rattle.layout.specs.declared.Layout.{Layout}
use Rattle.layout.specs.File.{byte_count, file_of, write_rule, write_answer, write_bytes}
use Rattle.layout.proofs.Lengths.{length-file}

module _ (L : Layout) (p : ℕ) (steps : List Step) (outputs bytes : List ℕ) where
  pub write_stops : (k s : ℕ) → refusal k s ≡ write_answer L p steps outputs (length bytes) → refused k s ≡ write_rule L p steps outputs (length bytes)
  unfolding write_answer
  write_stops k s answered = told _ _ _ answered

  module _ (n : ℕ) (answered : done (n ∷ []) ≡ write_answer L p steps outputs (length bytes)) where
    pub write_passes : fine ≡ write_rule L p steps outputs (length bytes)
    unfolding write_answer
    write_passes = told _ _ _ answered

    pub write_counts : n ≡ byte_count L p (length outputs) (length steps)
    unfolding write_answer
    write_counts = ap (λ (l : List ℕ). get_or l 0 0) (told_values_lem _ _ _ answered)

    module _ (bytes' : List ℕ) (e : bytes' ≡ write_bytes L p steps outputs bytes) where
      laid : bytes' ≡ over (file_of L p steps outputs) bytes
      unfolding write_bytes
      laid = e ∙ sym (renewed _ _ bytes _ write_passes refl)

      -- the bytes counted are the file
      pub write_front : take n bytes' ≡ file_of L p steps outputs
      write_front = ap (take n) laid ∙ take-over n (file_of L p steps outputs) bytes (omega (arith, write_counts, length-file L p steps outputs))

      -- and have room
      pub write_room : n ≤ length bytes'
      unfolding write_rule
      write_room =
          let room = not_lt _ _ (refuse_if_fine _ 5 0 (then_fine _ _ (sym write_passes)).1) in
          let l = length-file L p steps outputs in
          omega (arith, ap length laid, write_counts, over-length (file_of L p steps outputs) bytes (omega arith))
