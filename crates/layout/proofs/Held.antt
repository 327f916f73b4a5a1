-- A chain that a layout holds, taken apart into its sizes, its length and its numbers, and put together again.
use mathlib.Core.Path.{◌≡◌, sym}
use mathlib.Core.List.{List}
use Prim.Native.Nat.{ℕ, ◌≤◌}
use lib.ListN.{length}
use Rattle.chain.specs.Verdict.{fine}
use Rattle.chain.specs.Chain.{shape_rule, chain_rule}
use Rattle.chain.specs.declared.Step.{Step}
use Rattle.chain.proofs.Rules.{then_fine, pass}
use Rattle.chain.proofs.Sizes.{Sizes, shape_fits, fits_shape}
use Rattle.layout.specs.declared.Layout.{Layout}
use Rattle.layout.specs.File.{held_rule, Held}
use Rattle.layout.specs.Inner.{Sized}

pub record HeldChain (L : Layout) (p : ℕ) (steps : List Step) (outputs : List ℕ) : Type 0 where
  pub sizes : Sizes p (length outputs)
  pub few : length steps ≤ L.limit
  pub chain : chain_rule p steps outputs ≡ fine

-- sizes that the shape's rule lets through
pub shape_sized : (L : Layout) (p q n : ℕ) → shape_rule L.limit p q n ≡ fine → Sized L p q n
shape_sized L p q n ok =
    let s = shape_fits L.limit p q n ok in
    record { p_some = s.sizes.p_some; p_low = s.sizes.p_low; q_low = s.sizes.q_low; n_low = s.few }

module _ (L : Layout) (p : ℕ) (steps : List Step) (outputs : List ℕ) where
  pub held_parts : Held L p steps outputs → HeldChain L p steps outputs
  unfolding held_rule
  held_parts ok =
      let a = then_fine _ _ ok in
      let s = shape_fits L.limit p (length outputs) (length steps) a.0 in
      record { sizes = s.sizes; few = s.few; chain = a.1 }

  pub parts_held : HeldChain L p steps outputs → Held L p steps outputs
  unfolding held_rule
  parts_held h =
      let s = fits_shape L.limit p (length outputs) (length steps) (record { sizes = h.sizes; few = h.few }) in
      sym (pass _ _ fine (sym s) (sym h.chain))

  pub held_sized : HeldChain L p steps outputs → Sized L p (length outputs) (length steps)
  held_sized h = record { p_some = h.sizes.p_some; p_low = h.sizes.p_low; q_low = h.sizes.q_low; n_low = h.few }
