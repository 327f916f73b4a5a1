-- A field is five bytes, one after the other, and its amount the sum of what their digits say, each at its weight.
use mathlib.Core.Path.{◌≡◌, sym, ap, ◌∙◌}
use mathlib.Core.List.{List, [], ◌∷◌}
use Prim.Native.Nat.{ℕ, suc, ◌+◌, ◌*◌, ◌/◌, ◌≤◌, ◌<◌}
use native.Mathlib.Omega.{arith}
use lib.ListN.{length, get_or, take, drop}
use lib.Seq.{drop-cons}
use Rattle.packed.specs.Field.{field_bytes, digits_of, amount_of, field_from}
use Rattle.packed.specs.Inner.{said_by}

-- the next of a list's cells
one_more : (n at at' : ℕ) (l : List ℕ) → at' ≡ suc at → at < length l → take (suc n) (drop at l) ≡ get_or l at 0 ∷ take n (drop at' l)
one_more n at at' l e h = ap (take (suc n)) (drop-cons l at 0 h) ∙ ap (λ (k : ℕ). get_or l at 0 ∷ take n (drop k l)) (sym e)

-- the bytes of the field from a byte on
abbrev pub five_at : List ℕ → ℕ → List ℕ
five_at l at = get_or l at 0 ∷ get_or l (at + 1) 0 ∷ get_or l (at + 2) 0 ∷ get_or l (at + 3) 0 ∷ get_or l (at + 4) 0 ∷ []

pub five_bytes : (l : List ℕ) (at : ℕ) → at + field_bytes ≤ length l → field_from l at ≡ five_at l at
five_bytes l at h =
    one_more 4 at (at + 1) l (omega arith) (omega arith)
    ∙ ap (λ (r : List ℕ). get_or l at 0 ∷ r)
    (one_more 3 (at + 1) (at + 2) l (omega arith) (omega arith)
    ∙ ap (λ (r : List ℕ). get_or l (at + 1) 0 ∷ r)
    (one_more 2 (at + 2) (at + 3) l (omega arith) (omega arith)
    ∙ ap (λ (r : List ℕ). get_or l (at + 2) 0 ∷ r)
    (one_more 1 (at + 3) (at + 4) l (omega arith) (omega arith)
    ∙ ap (λ (r : List ℕ). get_or l (at + 3) 0 ∷ r) (one_more 0 (at + 4) (at + 5) l (omega arith) (omega arith)))))

pub amount_said : (a b c d e : ℕ)
    → amount_of (a ∷ b ∷ c ∷ d ∷ e ∷ []) ≡ said_by a * 10000000 + said_by b * 100000 + said_by c * 1000 + said_by d * 10 + e / 16
unfolding amount_of digits_of
amount_said a b c d e = omega arith
