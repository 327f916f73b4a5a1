-- Rows that rise below n are rows of places of n values; and steps in front of cells that changed are the steps that they were.
use mathlib.Core.Path.{◌≡◌, sym, ap, subst, ◌∙◌}
use mathlib.Core.List.{List}
use Prim.Native.Nat.{ℕ, ◌+◌, ◌-◌, ◌*◌, ◌≤◌, ◌<◌}
use native.Mathlib.Omega.{arith}
use lib.ListN.{length, get_or}
use lib.Seq.{slice, length-slice}
use Rattle.chain.specs.Chain.{pairs, squarings_of}
use Rattle.products.specs.Inner.{steps_in, SoFar}
use Rattle.products.specs.declared.Progress.{Progress}
use Rattle.clumps.specs.Lists.{joined}
use Rattle.rows.specs.Inner.{row_at, Formed, Rising}
use Rattle.rows.proofs.Lists.{slice_cell, slice_same}
use Rattle.rows.proofs.Members.{rows_joined}
use Rattle.row_products.specs.Inner.{PlacesAt}
use Rattle.keys.proofs.Climbing.{every_joined}
use Rattle.keys.proofs.Rising.{rising_climbs}
use Rattle.level.proofs.Cutting.{every_at}
use Rattle.level.proofs.Ranked.{every_below}

pub places_at : (s : List ℕ) (at m n : ℕ) → Formed s at m (get_or s (at + m) 0) → ((j : ℕ) → j < m → Rising n (row_at s at j)) → PlacesAt s at m n
places_at s at m n formed rising = record { formed = formed; low = low }
  where
    e : ℕ
    e = get_or s (at + m) 0

    flat : slice (at + m + 1) e s ≡ joined m (row_at s at)
    flat = rows_joined s at m e formed

    low : (i : ℕ) → at + m + 1 ≤ i → i < e → get_or s i 0 < n
    low i h g =
        let q : at + m + 1 + (i - (at + m + 1)) ≡ i = omega arith in
        let long : length (joined m (row_at s at)) ≡ e - (at + m + 1) = sym (ap length flat) ∙ length-slice (at + m + 1) e s formed.inside in
        subst (λ (x : ℕ). x < n)
        (sym (ap (λ (c : ℕ). get_or s c 0) (sym q) ∙ sym (slice_cell (at + m + 1) e s (i - (at + m + 1)) (omega arith)) ∙ ap (λ (l : List ℕ). get_or l (i - (at + m + 1)) 0) flat))
        (every_at (λ x. x < n) (joined m (row_at s at)) (every_joined (λ x. x < n) m (row_at s at) (λ j k. every_below 0 n (row_at s at j) (rising_climbs n (row_at s at j) (rising j k))))
        (i - (at + m + 1)) (omega (arith, long)))

module _ (old new : List ℕ) (r : Progress) (so_far : SoFar old r) (size : length new ≡ length old) (same : (c : ℕ) → c < 2 * r.steps → get_or new c 0 ≡ get_or old c 0) where
  pub steps_kept : steps_in new r.steps ≡ steps_in old r.steps
  steps_kept = ap pairs (slice_same 0 (2 * r.steps) new old (omega (arith, so_far.fits)) so_far.fits (λ c h g. same c g))

  pub so_far_kept : SoFar new r
  so_far_kept = record { fits = omega (arith, so_far.fits); counted = so_far.counted ∙ ap squarings_of (sym steps_kept) }
