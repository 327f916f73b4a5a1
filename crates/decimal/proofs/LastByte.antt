-- Whether a text ends with a byte is whether its last byte is that one.
use mathlib.Core.Path.{◌≡◌, refl, sym, ap, ◌∙◌}
use mathlib.Core.Bool.{Bool, true, false, ◌&&◌}
use mathlib.Core.List.{List, [], ◌∷◌}
use Prim.Native.Nat.{ℕ, suc, ◌-◌, ◌≤◌, ◌<◌}
use native.Mathlib.Decide.{ℕ_discrete, dec_lt}
use native.Mathlib.Omega.{arith}
use lib.Dec.{eqb}
use lib.ListN.{length, get_or, drop, drop_of_length-le}
use lib.Seq.{drop-cons}
use borrow.Author.Tests.{eq-eqb, ne_eqb}
use Rattle.std.specs.List.{ends_with}
use Rattle.chain.specs.Tests.{◌=?◌}

-- the bytes of two texts are compared either way round
pub either : (a b : ℕ) → eqb a b ≡ eqb b a
either a b = by_case (ℕ_discrete a b)
  where
    by_case : Dec (a ≡ b) → eqb a b ≡ eqb b a
    by_case (yes h) = eq-eqb a b h ∙ sym (eq-eqb b a (sym h))
    by_case (no h) = ne_eqb a b h ∙ sym (ne_eqb b a (λ e. h (sym e)))

-- a text without bytes is told as if its last byte were 0
pub ends_is : (text : List ℕ) (b : ℕ) (t : Bool) → 0 < b → t ≡ ends_with eqb text (b ∷ []) → t ≡ (get_or text (length text - 1) 0 =? b)
unfolding ◌=?◌
ends_is text b t h e = by_size (dec_lt 0 (length text))
  where
    by_test : (s : Bool) → (s && true) ≡ s
    by_test true = refl
    by_test false = refl

    by_size : Dec (0 < length text) → t ≡ (get_or text (length text - 1) 0 =? b)
    by_size (yes some) =
        let n : ℕ = length text - 1 in
        let past : length text ≤ suc n = omega arith in
        let none : drop (suc n) text ≡ [] = drop_of_length-le text past in
        let last : drop n text ≡ get_or text n 0 ∷ [] = drop-cons text n 0 (omega arith) ∙ ap (λ (l : List ℕ). get_or text n 0 ∷ l) none in
        rw (e, last, either b (get_or text n 0)) (by_test (eqb (get_or text n 0) b))
    by_size (no empty) =
        let low : length text ≤ 0 = omega arith in
        let none : text ≡ [] = drop_of_length-le text low in
        let other : 0 ≡ b → ⊥ = omega arith in
        rw (e, none, ne_eqb 0 b other)
