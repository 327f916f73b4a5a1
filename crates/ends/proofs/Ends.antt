-- The slices' methods compare from a mark to a text the bytes that the definitions test one by one.
use mathlib.Core.Path.{◌≡◌, refl}
use mathlib.Core.Bool.{Bool, true, false, not, cond, ◌&&◌}
use mathlib.Core.List.{List, [], ◌∷◌}
use Prim.Native.Nat.{ℕ}
use native.Mathlib.Omega.{arith}
use lib.Dec.{eqb}
use lib.ListN.{length}
use Rattle.std.specs.List.{starts_with, ends_with}
use Rattle.chain.specs.Tests.{◌=?◌, ◌≠?◌, ◌or◌}
use Rattle.decimal.proofs.LastByte.{either, ends_is}
use Rattle.places.specs.Places.{mark_length, is_cut}

pub mark_starts : (text : List ℕ) (t : Bool) → t ≡ starts_with eqb text (239 ∷ 187 ∷ 191 ∷ []) → cond t 3 0 ≡ mark_length text
unfolding mark_length ◌≠?◌ ◌or◌
mark_starts [] t e = rw e
mark_starts (a ∷ []) t e = rw (e, either 239 a) (by_test (eqb a 239))
  where
    by_test : (s : Bool) → ◌≡◌ {A = ℕ} (cond (s && false) 3 0) (cond (not s or true) 0 3)
    by_test true = refl
    by_test false = refl
mark_starts (a ∷ b ∷ []) t e = rw (e, either 239 a, either 187 b) (by_test (eqb a 239) (eqb b 187))
  where
    by_test : (s t : Bool) → ◌≡◌ {A = ℕ} (cond (s && (t && false)) 3 0) (cond (not s or not t or true) 0 3)
    by_test true true = refl
    by_test true false = refl
    by_test false t = refl
mark_starts (a ∷ b ∷ c ∷ r) t e = rw (e, either 239 a, either 187 b, either 191 c) (by_test (eqb a 239) (eqb b 187) (eqb c 191))
  where
    by_test : (s t u : Bool) → ◌≡◌ {A = ℕ} (cond (s && (t && (u && true))) 3 0) (cond (not s or not t or not u) 0 3)
    by_test true true true = refl
    by_test true true false = refl
    by_test true false u = refl
    by_test false t u = refl

module _ (text : List ℕ) where
  pub none_cut : (s : Bool) → s ≡ eqb (length text) 0 → s ≡ true → not s ≡ is_cut text
  unfolding is_cut ◌=?◌
  none_cut s e h = rw (← e, h)

  pub ends_cut : (t : Bool) → eqb (length text) 0 ≡ false → t ≡ ends_with eqb text (10 ∷ []) → not t ≡ is_cut text
  unfolding is_cut ◌=?◌ ◌≠?◌
  ends_cut t some e = rw (some, ends_is text 10 t (omega arith) e)
