-- A part of two joined lists is a part of the first and then one of the second, by how far it reaches.
use mathlib.Core.Path.{◌≡◌, sym, ap, ◌∙◌}
use mathlib.Core.List.{List, [], ◌∷◌, ◌++◌}
use Prim.Native.Nat.{ℕ, zero, suc, ◌+◌, ◌-◌}
use native.Mathlib.Nat.{zero-add, suc-add, zero-sub, sub-zero, suc-sub-suc}
use lib.ListN.{length, take, drop}
use lib.Seq.{take-nil}

module _ {ℓ} {A : Type ℓ} where
  pub take-append : (k : ℕ) (x y : List A) → take k (x ++ y) ≡ take k x ++ take (k - length x) y
  take-append zero x y = sym (ap (λ (n : ℕ). take n y) (zero-sub (length x)))
  take-append (suc k) [] y = sym (ap (λ (n : ℕ). take n y) (sub-zero (suc k)))
  take-append (suc k) (a ∷ x) y =
      ap (λ (r : List A). a ∷ r) (take-append k x y)
      ∙ ap (λ (n : ℕ). a ∷ (take k x ++ take n y)) (sym (suc-sub-suc k (length x)))

  -- a part from the middle, taken before it is dropped
  pub drop-take : (o w : ℕ) (l : List A) → take w (drop o l) ≡ drop o (take (o + w) l)
  drop-take zero w l = ap (λ (n : ℕ). take n l) (sym (zero-add w))
  drop-take (suc o) w [] = take-nil w ∙ sym (ap (λ (r : List A). drop (suc o) r) (take-nil (suc o + w)))
  drop-take (suc o) w (x ∷ l) = drop-take o w l ∙ ap (λ (n : ℕ). drop (suc o) (take n (x ∷ l))) (sym (suc-add o w))

  pub take_none : (k : ℕ) (x y : List A) → k ≡ 0 → take k x ≡ take k y
  take_none k x y e = ap (λ (n : ℕ). take n x) e ∙ sym (ap (λ (n : ℕ). take n y) e)

  -- two lists that start alike
  pub take_both : (k n : ℕ) (x y z : List A) → length x ≡ n → take (k - n) y ≡ take (k - n) z → take k (x ++ y) ≡ take k (x ++ z)
  take_both k n x y z l e = rw (take-append, take-append, l, e)
