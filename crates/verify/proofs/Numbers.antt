-- A refusal's number tells which rule found it: what is judged before the exponents refuses under 12 at the most, never under 13 or 14.
use mathlib.Core.Path.{◌≡◌, refl}
use mathlib.Core.Bool.{Bool, true, false}
use mathlib.Core.List.{List, [], ◌∷◌}
use Prim.Native.Nat.{ℕ, zero, suc, ◌+◌, ◌<◌}
use native.Mathlib.Omega.{arith}
use Rattle.chain.specs.Verdict.{Verdict, fine, refused, ◌then◌, refuse_if, refuse_at}
use Rattle.chain.specs.Chain.{sizes_rule, length_rule, shape_rule, step_rule, steps_rule, outputs_rule, chain_rule}
use Rattle.chain.specs.declared.Step.{Step}
use Rattle.sheet.specs.Sheet.{amounts_rule}
use Rattle.verify.specs.Verify.{fitting_rule}

-- a rule does not refuse under number n
abbrev pub Never : ℕ → Verdict → Type 0
Never n v = (s : ℕ) → v ≡ refused n s → ⊥

same_number : {k n s t : ℕ} → refused k s ≡ refused n t → k ≡ n
same_number e = cc

-- two rules in order: what the first never finds is from the second, what the second never finds is from the first
module _ (n s : ℕ) where
  pub from_second : (a b : Verdict) → Never n a → (a then b) ≡ refused n s → (a ≡ fine) × (b ≡ refused n s)
  unfolding ◌then◌
  from_second fine b not e = (refl, e)
  from_second (refused k t) b not e = absurd (not s e)

  pub from_first : (a b : Verdict) → Never n b → (a then b) ≡ refused n s → a ≡ refused n s
  unfolding ◌then◌
  from_first fine b not e = absurd (not s e)
  from_first (refused k t) b not e = e

module _ (n : ℕ) where
  never_fine : Never n fine
  never_fine s e = let z : ◌≡◌ {A = ℕ} 0 1 = cc in omega arith

  never_if : (t : Bool) (k s : ℕ) → (k ≡ n → ⊥) → Never n (refuse_if t k s)
  unfolding refuse_if
  never_if true k s other = λ r e. other (same_number e)
  never_if false k s other = never_fine

  pub never_at : (k s : ℕ) → (k ≡ n → ⊥) → Never n (refuse_at k s)
  unfolding refuse_at
  never_at k zero other = never_fine
  never_at k (suc s) other = λ r e. other (same_number e)

  never_then : (a b : Verdict) → Never n a → Never n b → Never n (a then b)
  unfolding ◌then◌
  never_then fine b u v = v
  never_then (refused k t) b u v = u

module _ (n : ℕ) (late : 12 < n) where
  never_step : (v s : ℕ) (x : Step) → Never n (step_rule v s x)
  unfolding step_rule
  never_step v s x =
      never_then n _ _ (never_if n _ 9 s (λ e. omega arith))
      (never_then n _ _ (never_if n _ 10 s (λ e. omega arith)) (never_if n _ 11 s (λ e. omega arith)))

  never_steps : (p s : ℕ) (steps : List Step) → Never n (steps_rule p s steps)
  never_steps p s [] = never_fine n
  never_steps p s (x ∷ r) = never_then n _ _ (never_step (p + s) s x) (never_steps p (suc s) r)

  never_outputs : (top i : ℕ) (l : List ℕ) → Never n (outputs_rule top i l)
  never_outputs top i [] = never_fine n
  never_outputs top i (o ∷ r) = never_then n _ _ (never_if n _ 12 i (λ e. omega arith)) (never_outputs top (suc i) r)

  pub never_fitting : (p : ℕ) (steps : List Step) (outputs amounts : List ℕ) (scratch : ℕ)
      → Never n (fitting_rule p steps outputs amounts scratch)
  unfolding fitting_rule shape_rule sizes_rule length_rule amounts_rule chain_rule
  never_fitting p steps outputs amounts scratch =
      never_then n _ _ (never_then n _ _ (never_if n _ 1 0 (λ e. omega arith)) (never_if n _ 4 0 (λ e. omega arith)))
      (never_then n _ _ (never_if n _ 2 0 (λ e. omega arith))
      (never_then n _ _ (never_then n _ _ (never_steps p 1 steps) (never_outputs _ 1 outputs)) (never_if n _ 5 0 (λ e. omega arith))))
