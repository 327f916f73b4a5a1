-- What compile answered tells what its rule found, and so that its slices begin with the chain.
use mathlib.Core.Path.{◌≡◌, refl, sym, ap, ◌∙◌}
use mathlib.Core.List.{List}
use Prim.Native.Nat.{ℕ, ◌*◌, ◌/◌, ◌≤◌}
use native.Mathlib.Omega.{arith}
use lib.ListN.{length, get_or, take}
use Rattle.chain.specs.Verdict.{fine, refused, done, refusal}
use Rattle.chain.specs.Written.{over}
use Rattle.chain.specs.Chain.{most_amount, most_steps, pairs, flat}
use Rattle.chain.specs.Chain as spec
use Rattle.chain.proofs.Rules.{then_fine, refuse_if_fine, neither, not_lt, renewed}
use Rattle.chain.proofs.Told.{told, told_values_lem}
use Rattle.chain.proofs.Pairs.{pairs_flat, length-flat}
use Rattle.chain.proofs.Written.{take-over, over-length}
use Rattle.quote.specs.ByMethod.{chain_of, count}
use Rattle.quote.proofs.Right.{compiled_right}
use Rattle.compile.specs.Compile.{compile_rule, compile_answer, compile_steps, compile_outputs}
use Rattle.answers.specs.Answers.{counts_in}
use Rattle.answers.specs.declared.Counts.{Counts}
use Rattle.compile.proofs.Fits.{accepted}

-- a chain compiled: its n steps and q outputs stand at the front of the two slices
pub record Filled (p q : ℕ) (amounts : List ℕ) (method k : ℕ) (steps outputs : List ℕ) (n : ℕ) : Type 0 where
  pub few : n ≤ most_steps
  pub steps_room : 2 * n ≤ length steps
  pub outputs_room : q ≤ length outputs
  pub steps_front : pairs (take (2 * n) steps) ≡ (chain_of p q amounts method k).steps
  pub outputs_front : take q outputs ≡ (chain_of p q amounts method k).outputs

module _ (p q : ℕ) (amounts : List ℕ) (method k : ℕ) (steps outputs : List ℕ) where
  pub compile_stops : (number place : ℕ) → refusal number place ≡ compile_answer p q amounts method k (length steps / 2) (length outputs)
      → refused number place ≡ compile_rule p q amounts method k (length steps / 2) (length outputs)
  unfolding compile_answer
  compile_stops number place e = told _ _ _ e

  module _ (counts : Counts) (answered : done (counts_in counts) ≡ compile_answer p q amounts method k (length steps / 2) (length outputs)) where
    abbrev n : ℕ
    n = counts.steps

    pub compile_passes : fine ≡ compile_rule p q amounts method k (length steps / 2) (length outputs)
    unfolding compile_answer
    compile_passes = told _ _ _ answered

    steps_told : n ≡ length (chain_of p q amounts method k).steps
    unfolding compile_answer spec.counts
    steps_told = ap (λ (l : List ℕ). get_or l 0 0) (told_values_lem _ _ _ answered)

    pub compile_counts : ((j : ℕ) → get_or amounts j 0 ≤ most_amount) → n ≡ count p q amounts method k
    unfolding compile_rule
    compile_counts low =
        let ok = accepted p q amounts method k (then_fine _ _ (sym compile_passes)).0 in
        steps_told ∙ (compiled_right p q amounts method k low ok.ranges.fits).counted

    pub filled : ((j : ℕ) → get_or amounts j 0 ≤ most_amount) → (steps' outputs' : List ℕ)
        → steps' ≡ compile_steps p q amounts method k (length outputs) steps → outputs' ≡ compile_outputs p q amounts method k (length steps / 2) outputs
        → Filled p q amounts method k steps' outputs' n
    unfolding compile_steps compile_outputs compile_rule
    filled low steps' outputs' es eo =
        let t = then_fine _ _ (sym compile_passes) in
        let rooms = neither _ _ (refuse_if_fine _ 5 0 t.1) in
        let pairs_room = not_lt _ _ rooms.0 in
        let places = not_lt _ _ rooms.1 in
        let ok = accepted p q amounts method k t.0 in
        let right = compiled_right p q amounts method k low ok.ranges.fits in
        let told-counts = compile_counts low in
        let c = chain_of p q amounts method k in
        let fs : steps' ≡ over (flat c.steps) steps = es ∙ sym (renewed _ _ steps _ compile_passes refl) in
        let fo : outputs' ≡ over c.outputs outputs = eo ∙ sym (renewed _ _ outputs _ compile_passes refl) in
        let ls : length (flat c.steps) ≡ 2 * n = omega (arith, length-flat c.steps, right.counted) in
        let lo : length c.outputs ≡ q = right.outputs in
        record {
          few = omega (arith, ok.short);
          steps_room = omega (arith, ap length fs, over-length (flat c.steps) steps (omega arith));
          outputs_room = omega (arith, ap length fo, over-length c.outputs outputs (omega arith));
          steps_front = ap (λ (l : List ℕ). pairs (take (2 * n) l)) fs ∙ ap pairs (take-over (2 * n) (flat c.steps) steps ls) ∙ pairs_flat c.steps;
          outputs_front = ap (take q) fo ∙ take-over q c.outputs outputs lo;
        }
