-- What two parts that pool leave room for and leave behind: no number goes past 32 bits, and both lists one after the other are the pool's.
use mathlib.Core.Path.{◌≡◌, sym, ap, ap₂, ◌∙◌}
use mathlib.Core.List.{List, ◌++◌, map}
use Prim.Native.Nat.{ℕ, ◌+◌, ◌*◌, ◌/◌, ◌≤◌, ◌<◌}
use native.Mathlib.Omega.{arith}
use lib.ListN.{length, get_or, take, length-append, length-map}
use Rattle.chain.specs.Verdict.{fine, refused, done, refusal}
use Rattle.chain.specs.Written.{over}
use Rattle.chain.specs.Chain.{most_columns, most_steps, pairs, flat, steps_rule, outputs_rule, counts}
use Rattle.chain.proofs.Rules.{stop, judging, answer_refused, answer_done, kept, renewed}
use Rattle.chain.proofs.Steps.{flat_low}
use Rattle.chain.proofs.Limits.{outputs_low}
use Rattle.chain.proofs.Pairs.{length_pairs, take-flat, flat_append}
use Rattle.pool.specs.Pool.{Part, part, renumbered, renumbered_step, pooled_steps, pooled_outputs, poolable_rule, pool_rule, pool_answer, pool_steps, pool_outputs}
use Rattle.pool.proofs.Numbers.{flat_renumbered}
use Rattle.pooler.specs.Inner.{Renumberable}

-- the numbers of a part's lists are far from the end of 32 bits
module _ (p n k : ℕ) (p_low : p ≤ most_columns) (n_low : n ≤ most_steps) (k_low : k ≤ most_steps) (l : List ℕ) where
  pub steps_renumberable : k ≡ length l / 2 → steps_rule p 1 (pairs l) ≡ fine → Renumberable n (take (2 * k) l)
  steps_renumberable is ok i h =
      let front : take (2 * k) l ≡ flat (pairs l) = ap (λ (j : ℕ). take (2 * j) l) is ∙ take-flat l in
      let same : get_or (take (2 * k) l) i 0 ≡ get_or (flat (pairs l)) i 0 = ap (λ (t : List ℕ). get_or t i 0) front in
      omega (arith, same, flat_low p 1 (p + k) (pairs l) ok (omega (arith, length_pairs l)) i)

  pub outputs_renumberable : outputs_rule (p + k) 1 l ≡ fine → Renumberable n l
  outputs_renumberable ok i h = omega (arith, outputs_low (p + k) 1 l ok i h)

-- the pool of two flat parts: its sizes, and its lists as they are put
pub record FlatPool (p p' : ℕ) (l l' o o' : List ℕ) : Type 0 where
  pub count : length l / 2 + length l' / 2 ≡ length (pooled_steps (part p (pairs l) o) (part p' (pairs l') o'))
  pub payslips : length o + length o' ≡ length (pooled_outputs (part p (pairs l) o) (part p' (pairs l') o'))
  pub steps : take (2 * (length l / 2)) l ++ map (renumbered p' (length l / 2)) (take (2 * (length l' / 2)) l')
      ≡ flat (pooled_steps (part p (pairs l) o) (part p' (pairs l') o'))
  pub outputs : o ++ map (renumbered p' (length l / 2)) o' ≡ pooled_outputs (part p (pairs l) o) (part p' (pairs l') o')

pub flat_pool : (p p' : ℕ) (l l' o o' : List ℕ) → FlatPool p p' l l' o o'
flat_pool p p' l l' o o' =
    let n = length (pairs l) in
    record {
      count = omega (arith, length_pairs l, length_pairs l', length-append (pairs l) (map (renumbered_step p' n) (pairs l')), length-map (pairs l') (renumbered_step p' n));
      payslips = omega (arith, length-append o (map (renumbered p' n) o'), length-map o' (renumbered p' n));
      steps =
          ap₂ (λ (s t : List ℕ). s ++ map (renumbered p' (length l / 2)) t) (take-flat l) (take-flat l')
          ∙ ap (λ (k : ℕ). flat (pairs l) ++ map (renumbered p' k) (flat (pairs l'))) (sym (length_pairs l))
          ∙ ap (λ (t : List ℕ). flat (pairs l) ++ t) (sym (flat_renumbered p' n (pairs l')))
          ∙ sym (flat_append (pairs l) (map (renumbered_step p' n) (pairs l')));
      outputs = ap (λ (k : ℕ). o ++ map (renumbered p' k) o') (sym (length_pairs l));
    }

-- the verdict, by what was found against the parts and by the room lent
module _ (a b : Part) (room places : ℕ) where
  pub parts_refused : (n s : ℕ) → refused n s ≡ poolable_rule a b → refused n s ≡ pool_rule a b room places
  unfolding pool_rule
  parts_refused n s e = stop _ _ n s e

  module _ (ok : fine ≡ poolable_rule a b) where
    pub steps_short : room < length (pooled_steps a b) → refused 5 0 ≡ pool_rule a b room places
    unfolding pool_rule
    steps_short h = search judging depth 8

    pub outputs_short : places < length (pooled_outputs a b) → refused 5 0 ≡ pool_rule a b room places
    unfolding pool_rule
    outputs_short h = search judging depth 8

    pub room_enough : length (pooled_steps a b) ≤ room → length (pooled_outputs a b) ≤ places → fine ≡ pool_rule a b room places
    unfolding pool_rule
    room_enough h g = search judging depth 8

-- what the call answers and leaves, by the verdict
module _ (a b : Part) (steps outputs : List ℕ) where
  pub refused_leaves : (n s : ℕ) → refused n s ≡ pool_rule a b (length steps / 2) (length outputs)
      → (refusal n s ≡ pool_answer a b (length steps / 2) (length outputs)) ×
      ((steps ≡ pool_steps a b (length outputs) steps) × (outputs ≡ pool_outputs a b (length steps / 2) outputs))
  unfolding pool_answer pool_steps pool_outputs
  refused_leaves n s e = (answer_refused _ _ n s e, (kept _ _ steps n s e, kept _ _ outputs n s e))

  pub pooled_leaves : (told steps' outputs' : List ℕ) → fine ≡ pool_rule a b (length steps / 2) (length outputs) → told ≡ counts (pooled_steps a b)
      → steps' ≡ over (flat (pooled_steps a b)) steps → outputs' ≡ over (pooled_outputs a b) outputs
      → (done told ≡ pool_answer a b (length steps / 2) (length outputs)) ×
      ((steps' ≡ pool_steps a b (length outputs) steps) × (outputs' ≡ pool_outputs a b (length steps / 2) outputs))
  unfolding pool_answer pool_steps pool_outputs
  pooled_leaves told steps' outputs' e is d f =
      (ap (λ (l : List ℕ). done l) is ∙ answer_done _ _ e, (renewed _ _ steps _ e d, renewed _ _ outputs _ e f))
