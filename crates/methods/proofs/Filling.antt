-- Cells are filled one after the other with a function's values: what stands in them is always the list of the values so far, over what was there.
use mathlib.Core.Path.{◌≡◌, refl, sym, ap, ◌∙◌}
use mathlib.Core.List.{List, [], ◌∷◌, ◌++◌}
use Prim.Native.Nat.{ℕ, ◌+◌, ◌≤◌, ◌<◌}
use native.Mathlib.Numerals.{add-one}
use native.Mathlib.Omega.{arith}
use lib.ListN.{length, get_or, take, drop, set, length-set}
use lib.Seq.{length-take-le, ext_get_or}
use Rattle.chain.specs.Written.{over}
use Rattle.chain.proofs.Written.{take-over, over_next, over_get_d}
use Rattle.digits.specs.Range.{list_to}
use Rattle.digits.proofs.Listed.{length-list, get_d_list}
use Rattle.methods.proofs.Paying.{over_none}

module _ (f : ℕ → ℕ) (old : List ℕ) where
  pub fill_on : (n c x : ℕ) (cells : List ℕ) → c < n → n ≤ length old → x ≡ f c → cells ≡ over (list_to c f) old
      → set cells c x ≡ over (list_to (c + 1) f) old
  fill_on n c x cells h room is e =
      rw (add-one c)
      (ap (λ (l : List ℕ). set l c x) e
      ∙ over_next (list_to c f) old x c (length-list c f) (omega arith)
      ∙ ap (λ (y : ℕ). over (list_to c f ++ y ∷ []) old) is)

  -- the loop's invariant: c of n cells are filled
  pub record FilledTo (n c : ℕ) (cells : List ℕ) : Type 0 where
    pub some : c ≤ n
    pub long : length cells ≡ length old
    pub are : cells ≡ over (list_to c f) old

  pub filled_none : (n : ℕ) → FilledTo n 0 old
  filled_none n = record { some = omega arith; long = refl; are = over_none old }

  pub filled_more : (n c x : ℕ) (cells : List ℕ) → c < n → n ≤ length old → x ≡ f c → FilledTo n c cells → FilledTo n (c + 1) (set cells c x)
  filled_more n c x cells h room is d =
      record { some = omega arith; long = length-set cells c x ∙ d.long; are = fill_on n c x cells h room is d.are }

  pub filled_all : (n c : ℕ) (cells : List ℕ) → n ≤ c → FilledTo n c cells → cells ≡ over (list_to n f) old
  filled_all n c cells g d =
      let last : c ≡ n = omega (arith, d.some) in
      d.are ∙ ap (λ (m : ℕ). over (list_to m f) old) last

  -- read back from the front
  module _ (n : ℕ) (cells : List ℕ) (e : cells ≡ over (list_to n f) old) where
    pub filled_at : (c : ℕ) → c < n → get_or cells c 0 ≡ f c
    filled_at c h = ap (λ (l : List ℕ). get_or l c 0) e ∙ over_get_d (list_to n f) old c (omega (arith, length-list n f)) ∙ get_d_list n f 0 c h

    pub filled_front : take n cells ≡ list_to n f
    filled_front = ap (take n) e ∙ take-over n (list_to n f) old (length-list n f)

    pub filled-length : n ≡ length (take n cells)
    filled-length = sym (ap length filled_front ∙ length-list n f)

-- the front of a slice, filled cell by cell and put back before the rest
pub front_filled : (f : ℕ → ℕ) (old cells : List ℕ) (n c : ℕ) → n ≤ length old → length cells ≡ length (take n old) → n ≤ c
    → ((d : ℕ) → d < c → get_or cells d 0 ≡ f d) → cells ++ drop n old ≡ over (list_to n f) old
unfolding over
front_filled f old cells n c room long g are =
    let size : length cells ≡ n = omega (arith, long, length-take-le n old room) in
    let same : cells ≡ list_to n f =
    ext_get_or 0 cells (list_to n f) (omega (arith, size, length-list n f))
    (λ d h. are d (omega (arith, size)) ∙ sym (get_d_list n f 0 d (omega (arith, size)))) in
    rw (length-list n f) (ap (λ (l : List ℕ). l ++ drop n old) same)

pub ruleset filling = (filled_none, filled_more, filled_all)
