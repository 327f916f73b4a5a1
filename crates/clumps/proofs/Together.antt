-- Several lists are cut, and their clumps entered together: each clump stands there once and is one of some list's, so a sum over one list's clumps is
-- one over all clumps that looks whether the list has them. The lists are an input's outputs in one clumping and an output's inputs in the other.
use mathlib.Core.Path.{◌≡◌, ap, ◌∙◌}
use mathlib.Core.List.{List, []}
use Prim.Native.Nat.{ℕ, ◌*◌, ◌≤◌, ◌<◌}
use native.Mathlib.Omega.{arith}
use lib.ListN.{length, get_or}
use Rattle.digits.specs.Range.{sum_to, list_to, sign}
use Rattle.digits.proofs.Range.{sum_same, le_sum, sign_some, sign_pos, sign_low}
use Rattle.digits.proofs.Listed.{length-list, get_d_list}
use Rattle.clumps.specs.Lists.{joined, equal, holds}
use Rattle.clumps.specs.Clumps.{Level, clumps_of, clumps_in}
use Rattle.clumps.proofs.Totals.{bit, total, total_same, total_joined, Part, sum-part}
use Rattle.clumps.proofs.Often.{often, members_tell, often_item, among_often, gather, often_order, sign_once}
use Rattle.clumps.proofs.Cut.{Proper, clumps_once}

-- m lists of indices below n, cut
pub record CutLists (l : Level) (n m : ℕ) (s : ℕ → List ℕ) (cut : List (List (List ℕ))) : Type 0 where
  pub some_a : 1 ≤ l.a
  pub some_b : 1 ≤ l.b
  pub proper : (i : ℕ) → i < m → Proper n (s i)
  pub is : cut ≡ list_to m (λ i. clumps_of l n (s i))

module _ {l : Level} {n m : ℕ} {s : ℕ → List ℕ} {cut : List (List (List ℕ))} (k : CutLists l n m s cut) where
  abbrev C : ℕ → List (List ℕ)
  C i = clumps_of l n (s i)

  abbrev D : List (List ℕ)
  D = clumps_in cut

  cut_at : (i : ℕ) → i < m → get_or cut i [] ≡ C i
  cut_at i h = ap (λ (c : List (List (List ℕ))). get_or c i []) k.is ∙ get_d_list m C [] i h

  -- a sum over all clumps of all lists
  pub cuts_total : (f : List ℕ → ℕ) → total f (joined (length cut) (λ i. get_or cut i [])) ≡ sum_to m (λ i. total f (C i))
  cuts_total f =
      total_joined f (length cut) (λ i. get_or cut i [])
      ∙ ap (λ (c : ℕ). sum_to c (λ i. total f (get_or cut i []))) (ap length k.is ∙ length-list m C)
      ∙ sum_same m _ _ (λ i h. ap (total f) (cut_at i h))

  -- entered, a clump stands once
  once_there : (u : List ℕ) → often equal u D ≡ sign (sum_to m (λ i. often equal u (C i)))
  once_there u = often_order u (joined (length cut) (λ i. get_or cut i [])) ∙ ap sign (cuts_total (λ v. bit (equal u v)))

  -- and is one of some list's
  pub owner : (x : ℕ) → x < length D → Part m (λ i. often equal (get_or D x []) (C i))
  owner x h =
      let u : List ℕ = get_or D x [] in
      let sum : ℕ = sum_to m (λ i. often equal u (C i)) in
      sum-part m _ (sign_pos sum (omega (arith, once_there u, often_item equal members_tell D [] x h, sign_low sum)))

  pub list_holds : (i : ℕ) → i < m → (u : List ℕ) → bit (holds u (get_or cut i [])) ≡ often equal u (C i)
  list_holds i h u =
      ap (λ (c : List (List ℕ)). bit (holds u c)) (cut_at i h)
      ∙ among_often equal u (C i)
      ∙ sign_once (often equal u (C i)) (clumps_once l n (s i) k.some_a k.some_b (k.proper i h) u)

  -- the sum over one list's clumps, gathered from all
  pub clumps_gather : (w : List ℕ → ℕ) (i : ℕ) → i < m → total (λ u. bit (holds u (get_or cut i [])) * w u) D ≡ total w (C i)
  clumps_gather w i h =
      total_same _ _ D (λ u. ap (λ (b : ℕ). b * w u) (list_holds i h u)) ∙ gather equal members_tell w (C i) D there
    where
      there : (u : List ℕ) → 0 < often equal u (C i) → often equal u D ≡ 1
      there u some =
          let sum : ℕ = sum_to m (λ i. often equal u (C i)) in
          once_there u ∙ sign_some sum (omega (arith, le_sum m (λ i. often equal u (C i)) i h))
