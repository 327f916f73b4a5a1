-- The loop's invariant: the cells as they will be are the cells so far with the fields still to be read laid behind them; each turn moves some over.
use mathlib.Core.Path.{◌≡◌, sym, ap, ap₂, ◌∙◌}
use mathlib.Core.List.{List, ◌∷◌}
use Prim.Native.Nat.{ℕ, suc, ◌+◌, ◌-◌, ◌*◌, ◌^◌, ◌≤◌, ◌<◌}
use native.Mathlib.Nat.{zero-mul, one-mul, add-mul, lt_of_lt_of_le}
use native.Mathlib.Omega.{arith}
use lib.ListN.{length, set, length-set}
use lib.Pow.{pow_mono}
use Rattle.chain.specs.Written.{over, laid}
use Rattle.chain.proofs.Written.{over_laid, laid_nil, laid_one}
use Rattle.bits.specs.Bits.{fields_at}
use Rattle.bits.specs.Inner.{FieldTaken, TwoTaken}
use Rattle.bits.proofs.Lengthened.{fields_long}
use Rattle.fields.specs.Inner.{widest_number, FieldsRoom, FieldsTaken}

-- what out will be, from what it is with n fields to come, the first at position c for cell j
unfoldable pub taken_from : List ℕ → ℕ → ℕ → ℕ → ℕ → List ℕ → List ℕ
taken_from file c w n j out = laid j (fields_at file c w n) out

-- the invariant: j fields are read, the cursor is at c and will be at goal, and out will be whole
pub record Taking (file whole : List ℕ) (goal w n : ℕ) (out : List ℕ) (c j : ℕ) : Type 0 where
  pub some_left : j ≤ n
  pub place : c + (n - j) * w ≡ goal
  pub room : n ≤ length out
  pub is : whole ≡ taken_from file c w (n - j) j out

module _ (file : List ℕ) (at w n : ℕ) (old : List ℕ) where
  pub take_start : FieldsRoom file at w n old → Taking file (over (fields_at file at w n) old) (at + n * w) w n old at 0
  unfolding taken_from
  take_start ok =
      let e : n - 0 ≡ n = omega arith in
      record {
        some_left = omega arith;
        place = ap (λ (k : ℕ). at + k * w) e;
        room = ok.room;
        is = over_laid (fields_at file at w n) old ∙ ap (λ (k : ℕ). laid 0 (fields_at file at w k) old) (sym e);
      }

  pub take-end : (out : List ℕ) (c j : ℕ) → n ≤ j → Taking file (over (fields_at file at w n) old) (at + n * w) w n out c j → FieldsTaken file at w n old out c
  unfolding taken_from fields_at
  take-end out c j h inv =
      let left : n - j ≡ 0 = omega arith in
      record {
        is = sym (inv.is ∙ ap (λ (k : ℕ). laid j (fields_at file c w k) out) left ∙ laid_nil j out);
        moved = omega (arith, inv.place, ap (λ (k : ℕ). k * w) left, zero-mul w);
      }

-- a turn
module _ (file whole : List ℕ) (at w n : ℕ) where
  module _ (out : List ℕ) (c j : ℕ) (inv : Taking file whole (at + n * w) w n out c j) where
    -- k fields, and those after them
    parts : (k : ℕ) → j + k ≤ n → (n - j) * w ≡ k * w + (n - (j + k)) * w
    parts k h =
        let e : n - j ≡ k + (n - (j + k)) = omega arith in
        ap (λ (m : ℕ). m * w) e ∙ add-mul k (n - (j + k)) w

    pub one_on : j < n → (v next : ℕ) → FieldTaken file c w v next → Taking file whole (at + n * w) w n (set out j v) next (j + 1)
    unfolding taken_from fields_at
    one_on h v next t =
        let e : n - j ≡ suc (n - (j + 1)) = omega arith in
        record {
          some_left = omega arith;
          place = omega (arith, inv.place, parts 1 (omega arith), one-mul w, t.moved);
          room = simp length-set inv.room;
          is =
              inv.is ∙ ap (λ (k : ℕ). laid j (fields_at file c w k) out) e
              ∙ ap₂ (λ (x m : ℕ). laid j (x ∷ fields_at file m w (n - (j + 1))) out) (sym t.is) (sym t.moved)
              ∙ sym (laid_one j v (fields_at file next w (n - (j + 1))) out (omega (arith, inv.room)));
        }

  pub two_on : (out : List ℕ) (c j : ℕ) → Taking file whole (at + n * w) w n out c j → 2 ≤ n - j → (v u next : ℕ) → TwoTaken file c w v u next
      → Taking file whole (at + n * w) w n (set (set out j v) (j + 1) u) next (j + 2)
  two_on out c j inv h v u next t =
      let e : j + 1 + 1 ≡ j + 2 = omega arith in
      let first = one_on out c j inv (omega arith) v (c + w) t.first in
      rw e at (one_on (set out j v) (c + w) (j + 1) first (omega arith) u next t.second)

-- a short file is read from a list that begins with it
module _ (file old long : List ℕ) (is : long ≡ over file old) (at w n : ℕ) (out : List ℕ) (ok : FieldsRoom file at w n out) where
  pub long_taken : (new : List ℕ) (next : ℕ) → FieldsTaken long at w n out new next → FieldsTaken file at w n out new next
  long_taken new next t =
      record { is = t.is ∙ ap (λ (l : List ℕ). over l out) (fields_long file old long is at w n ok.within); moved = t.moved }

-- a number of a list fits a value number
pub number_fits : (w v : ℕ) → w ≤ widest_number → v < 2 ^ w → v < 2 ^ 32
number_fits w v h k = lt_of_lt_of_le k (pow_mono {j = 32} (omega arith))
