-- The spot of a place is reached byte by byte: the bytes left lead from the spot at hand to it.
use mathlib.Core.Path.{◌≡◌, sym, ap, ◌∙◌}
use mathlib.Core.List.{List, ◌∷◌}
use Prim.Native.Nat.{ℕ, min, ◌+◌, ◌-◌, ◌≤◌, ◌<◌}
use native.Mathlib.Decide.{ℕ_discrete}
use native.Mathlib.Numerals.{add-one}
use native.Mathlib.Omega.{arith}
use lib.ListN.{length, get_or, take, drop}
use lib.Seq.{drop-cons}
use Rattle.std.proofs.lemmas.List.{take_min}
use Rattle.chain.proofs.Rules.{eq_yes, eq_no}
use Rattle.decimal.specs.Decimal.{newline}
use Rattle.places.specs.declared.Spot.{Spot}
use Rattle.places.specs.Places.{after_byte, after_bytes, spot_of}

-- the spot at hand, after i of the bytes before a place
pub record Reached (bytes : List ℕ) (w spot : Spot) (i : ℕ) : Type 0 where
  pub line_low : spot.line ≤ i + 1
  pub column_low : spot.column ≤ i + 1
  pub left : w ≡ after_bytes spot (drop i bytes)

-- the bytes before a place, of as many as the text has
pub spot_start : (text : List ℕ) (place before : ℕ) → before ≡ min (place - 1) (length text)
    → Reached (take before text) (spot_of text place) (record { line = 1; column = 1 }) 0
unfolding spot_of
spot_start text place before e =
    record { line_low = omega arith; column_low = omega arith; left = ap (after_bytes (record { line = 1; column = 1 })) (sym (ap (λ (n : ℕ). take n text) e ∙ take_min (place - 1) text)) }

-- a byte moves the line and the column by 1 at most
module _ (spot s : Spot) (b : ℕ) (e : s ≡ after_byte spot b) where
  line_on : s.line ≤ spot.line + 1
  unfolding after_byte
  line_on = rw e (by_byte (ℕ_discrete b newline))
    where
      by_byte : Dec (b ≡ newline) → (after_byte spot b).line ≤ spot.line + 1
      by_byte (yes h) = rw (eq_yes b newline h) (omega arith)
      by_byte (no h) = rw (eq_no b newline h) (omega arith)

  column_on : s.column ≤ spot.column + 1
  unfolding after_byte
  column_on = rw e (by_byte (ℕ_discrete b newline))
    where
      by_byte : Dec (b ≡ newline) → (after_byte spot b).column ≤ spot.column + 1
      by_byte (yes h) = rw (eq_yes b newline h) (omega arith)
      by_byte (no h) = rw (eq_no b newline h) (omega arith)

module _ (bytes : List ℕ) (w spot : Spot) (i : ℕ) (r : Reached bytes w spot i) where
  pub spot_next : (s : Spot) → i < length bytes → s ≡ after_byte spot (get_or bytes i 0) → Reached bytes w s (i + 1)
  spot_next s h f =
      let n : drop i bytes ≡ get_or bytes i 0 ∷ drop (i + 1) bytes = rw (add-one i) (drop-cons bytes i 0 h) in
      record {
        line_low = omega (arith, line_on _ _ _ f, r.line_low);
        column_low = omega (arith, column_on _ _ _ f, r.column_low);
        left = r.left ∙ ap (after_bytes spot) n ∙ ap (λ (t : Spot). after_bytes t (drop (i + 1) bytes)) (sym f);
      }
