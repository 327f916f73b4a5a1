-- A list is laid from a cell on, number by number: what the slice will be in the end is always what is left of the list, laid over what the slice is.
use mathlib.Core.Path.{◌≡◌, refl, sym, ap, ◌∙◌}
use mathlib.Core.List.{List, ◌∷◌}
use Prim.Native.Nat.{ℕ, ◌+◌, ◌≤◌, ◌<◌}
use native.Mathlib.Numerals.{add-one}
use native.Mathlib.Omega.{arith}
use lib.ListN.{length, get_or, drop, set, length-set, drop_of_length-le}
use lib.Seq.{drop-cons}
use Rattle.chain.specs.Written.{over, laid}
use Rattle.chain.proofs.Written.{laid_nil, laid_on, over_laid}

module _ (numbers : List ℕ) (at : ℕ) (old : List ℕ) where
  -- the loop's invariant: i numbers are laid
  pub record LaidTo (i : ℕ) (cells : List ℕ) : Type 0 where
    pub some : i ≤ length numbers
    pub long : length cells ≡ length old
    pub left : laid at numbers old ≡ laid (at + i) (drop i numbers) cells

  pub lay_none : LaidTo 0 old
  lay_none =
      let e : at + 0 ≡ at = omega arith in
      record { some = omega arith; long = refl; left = rw e }

  pub lay_more : (i x : ℕ) (cells : List ℕ) → i < length numbers → at + length numbers ≤ length old → x ≡ get_or numbers i 0 → LaidTo i cells
      → LaidTo (i + 1) (set cells (at + i) x)
  lay_more i x cells h room is d =
      let k : at + (i + 1) ≡ at + i + 1 = omega arith in
      record {
        some = omega arith;
        long = length-set cells (at + i) x ∙ d.long;
        left =
            rw k
            (laid_on (at + i) x (drop (i + 1) numbers) cells (laid at numbers old) (omega (arith, d.long))
            (d.left
            ∙ ap (λ (t : List ℕ). laid (at + i) t cells)
            (drop-cons numbers i 0 h ∙ ap (λ (j : ℕ). get_or numbers i 0 ∷ drop j numbers) (sym (add-one i)) ∙ ap (λ (y : ℕ). y ∷ drop (i + 1) numbers) (sym is))));
      }

  pub lay_all : (i : ℕ) (cells : List ℕ) → length numbers ≤ i → LaidTo i cells → cells ≡ laid at numbers old
  lay_all i cells h d = sym (d.left ∙ rw (drop_of_length-le numbers h) (laid_nil (at + i) cells))

-- the same over the front
module _ (numbers old : List ℕ) where
  pub front_more : (i x : ℕ) (cells : List ℕ) → i < length numbers → length numbers ≤ length old → x ≡ get_or numbers i 0 → LaidTo numbers 0 old i cells
      → LaidTo numbers 0 old (i + 1) (set cells i x)
  front_more i x cells h room is d =
      let e : 0 + i ≡ i = omega arith in
      rw e at (lay_more numbers 0 old i x cells h (omega arith) is d)

  pub front_all : (i : ℕ) (cells : List ℕ) → length numbers ≤ i → LaidTo numbers 0 old i cells → cells ≡ over numbers old
  front_all i cells h d = lay_all numbers 0 old i cells h d ∙ sym (over_laid numbers old)

pub ruleset laying = (lay_none, lay_more, lay_all)
