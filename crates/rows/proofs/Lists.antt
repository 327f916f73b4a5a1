-- Parts of lists, cell by cell.
use mathlib.Core.Path.{◌≡◌, sym, ap, ◌∙◌}
use mathlib.Core.List.{List, [], ◌∷◌, ◌++◌}
use Prim.Native.Nat.{ℕ, ◌+◌, ◌-◌, ◌≤◌, ◌<◌}
use native.Mathlib.Numerals.{add-one}
use native.Mathlib.Omega.{arith}
use lib.ListN.{length, get_or, set, take, drop}
use lib.Seq.{slice, length-slice, get_or-take, get_or-drop, ext_get_or, take-add, take-suc-set, drop-append-le, drop_at, length-take-le}

-- the cells of a part of a list
pub slice_cell : (f t : ℕ) (l : List ℕ) (i : ℕ) → f + i < t → get_or (slice f t l) i 0 ≡ get_or l (f + i) 0
slice_cell f t l i h = get_or-drop f _ i 0 ∙ get_or-take t l (f + i) 0 h

pub slice_is : (f t : ℕ) (l r : List ℕ) → t ≤ length l → t - f ≡ length r → ((i : ℕ) → i < length r → get_or l (f + i) 0 ≡ get_or r i 0) → slice f t l ≡ r
slice_is f t l r h long e =
    let size : length (slice f t l) ≡ t - f = length-slice f t l h in
    ext_get_or 0 (slice f t l) r (size ∙ long) (λ i k. slice_cell f t l i (omega arith) ∙ e i (omega arith))

-- parts of two lists that agree there
pub slice_same : (f t : ℕ) (l r : List ℕ) → t ≤ length l → t ≤ length r → ((c : ℕ) → f ≤ c → c < t → get_or l c 0 ≡ get_or r c 0) → slice f t l ≡ slice f t r
slice_same f t l r h g e =
    let size : length (slice f t r) ≡ t - f = length-slice f t r g in
    slice_is f t l (slice f t r) h (sym size) (λ i k. e (f + i) (omega arith) (omega arith) ∙ sym (slice_cell f t r i (omega arith)))

-- two parts that meet
pub slice_split : (f m t : ℕ) (l : List ℕ) → f ≤ m → m ≤ t → t ≤ length l → slice f t l ≡ slice f m l ++ slice m t l
slice_split f m t l h g k =
    ap (drop f) whole
    ∙ drop-append-le f (take m l) (take (t - m) (drop m l)) (omega (arith, front))
    ∙ ap (λ (r : List ℕ). slice f m l ++ r) (sym (ap (drop m) whole ∙ drop_at (take m l) (take (t - m) (drop m l)) m front))
  where
    front : length (take m l) ≡ m
    front = length-take-le m l (omega arith)

    whole : take t l ≡ take m l ++ take (t - m) (drop m l)
    whole = let q : t ≡ m + (t - m) = omega arith in ap (λ (n : ℕ). take n l) q ∙ take-add m (t - m) l

-- a part whose last cell is set
pub slice_set : (f t x : ℕ) (l : List ℕ) → f ≤ t → t < length l → slice f (t + 1) (set l t x) ≡ slice f t l ++ x ∷ []
slice_set f t x l h k =
    rw (add-one t, take-suc-set l t x k) (drop-append-le f (take t l) (x ∷ []) (omega (arith, length-take-le t l (omega arith))))
