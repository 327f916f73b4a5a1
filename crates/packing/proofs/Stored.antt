-- Five bytes stored one after the other are an amount's field, laid over the slice; fields one after the other are those of all amounts.
use mathlib.Core.Path.{◌≡◌, refl, sym, ap, ◌∙◌}
use mathlib.Core.List.{List, [], ◌∷◌, ◌++◌}
use Prim.Native.Nat.{ℕ, ◌+◌, ◌*◌, ◌/◌, ◌%◌, ◌≤◌, ◌<◌}
use native.Mathlib.Nat.{div-div-eq-div-mul, div-one}
use native.Mathlib.Numerals.{add-one}
use native.Mathlib.Omega.{arith}
use lib.ListN.{length, get_or, take, set}
use lib.Seq.{length-take-le, take_all, take-suc}
use Rattle.chain.specs.Written.{over, laid}
use Rattle.chain.proofs.Written.{laid_laid, cell_laid, cell_after, over_laid, over-length, over-take}
use Rattle.packed.specs.Field.{field_bytes, most_packed, plus, field_of}
use Rattle.packed.specs.Packed.{packed}
use Rattle.packed.proofs.Fields.{length-packed, packed_more}
use Rattle.packing.specs.Inner.{pair_of}

pub five_stored : (l : List ℕ) (at a b c d e : ℕ) → at + field_bytes ≤ length l
    → set (set (set (set (set l at a) (at + 1) b) (at + 2) c) (at + 3) d) (at + 4) e ≡ laid at (a ∷ b ∷ c ∷ d ∷ e ∷ []) l
five_stored l at a b c d e h =
    cell_after l _ (a ∷ b ∷ c ∷ d ∷ []) at e 4
    (cell_after l _ (a ∷ b ∷ c ∷ []) at d 3
    (cell_after l _ (a ∷ b ∷ []) at c 2 (cell_after l _ (a ∷ []) at b 1 (cell_laid l at a (omega arith)) refl (omega arith)) refl (omega arith)) refl
    (omega arith)) refl
    (omega arith)

-- two digits in a row, as one byte
two_digits : (y : ℕ) → y / 10 % 10 * 16 + y % 10 ≡ pair_of (y % 100)
two_digits y = omega arith

-- digits before and after a place
first_pair : (x : ℕ) → x ≤ most_packed → x / 10000000 % 100 ≡ x / 100000 / 100
first_pair x h =
    let e : x / 100000 / 100 ≡ x / 10000000 = div-div-eq-div-mul x 100000 100 in
    let low : x / 10000000 < 100 = omega (arith, h) in
    omega (arith, e, low)

third_pair : (x : ℕ) → x / 1000 % 100 ≡ x / 10 % 10000 / 100
third_pair x =
    let e : x / 10 / 100 ≡ x / 1000 = div-div-eq-div-mul x 10 100 in
    ap (λ (y : ℕ). y % 100) (sym e) ∙ parted (x / 10)
  where
    parted : (y : ℕ) → y / 100 % 100 ≡ y % 10000 / 100
    parted y = omega arith

fourth_pair : (y : ℕ) → y % 100 ≡ y % 10000 % 100
fourth_pair y = omega arith

-- an amount's field, its digits parted two by two
pub field_parted : (x : ℕ) → x ≤ most_packed
    → field_of x ≡
    pair_of (x / 100000 / 100) ∷ pair_of (x / 100000 % 100) ∷ pair_of (x / 10 % 10000 / 100) ∷ pair_of (x / 10 % 10000 % 100) ∷ (x % 10 * 16 + plus) ∷ []
unfolding field_of
field_parted x h =
    let next : (y n m : ℕ) → y / n / m ≡ y / (n * m) = div-div-eq-div-mul in
    let a1 : x / 10000000 / 10 ≡ x / 100000000 = next x 10000000 10 in
    let b1 : x / 100000 / 10 ≡ x / 1000000 = next x 100000 10 in
    let c1 : x / 1000 / 10 ≡ x / 10000 = next x 1000 10 in
    let d1 : x / 10 / 10 ≡ x / 100 = next x 10 10 in
    let a = two_digits (x / 10000000) in
    let b = two_digits (x / 100000) in
    let c = two_digits (x / 1000) in
    let d = two_digits (x / 10) in
    let a2 = first_pair x h in
    let c2 = third_pair x in
    let d2 = fourth_pair (x / 10) in
    let e : x / 1 ≡ x = div-one x in
    cc

-- the loop's invariant: the fields of the first i amounts stand at the front
pub record StoredTo (amounts old : List ℕ) (i : ℕ) (cells : List ℕ) : Type 0 where
  pub some : i ≤ length amounts
  pub long : length cells ≡ length old
  pub are : cells ≡ over (packed (take i amounts)) old

module _ (amounts old : List ℕ) where
  pub store_none : StoredTo amounts old 0 old
  store_none = record { some = omega arith; long = refl; are = sym (over-take 0 old (omega arith)) }

  pub store_more : (i : ℕ) (cells new : List ℕ) → i < length amounts → field_bytes * length amounts ≤ length old
      → new ≡ laid (field_bytes * i) (field_of (get_or amounts i 0)) cells → StoredTo amounts old i cells → StoredTo amounts old (i + 1) new
  store_more i cells new h room e d =
      let front = packed (take i amounts) in
      let field = field_of (get_or amounts i 0) in
      let here : length front ≡ field_bytes * i = omega (arith, length-packed (take i amounts), length-take-le i amounts d.some) in
      let more : take (i + 1) amounts ≡ take i amounts ++ get_or amounts i 0 ∷ [] =
      ap (λ (k : ℕ). take k amounts) (add-one i) ∙ take-suc amounts i 0 h in
      let new_is : new ≡ over (packed (take (i + 1) amounts)) old =
      e ∙ ap (laid (field_bytes * i) field) (d.are ∙ over_laid front old) ∙ laid_laid 0 (field_bytes * i) front field old (omega arith) (omega arith)
      ∙ sym (over_laid (front ++ field) old)
      ∙ ap (λ (l : List ℕ). over l old) (sym (ap packed more ∙ packed_more (take i amounts) (get_or amounts i 0))) in
      record {
        some = omega arith;
        long =
            ap length new_is
            ∙ over-length (packed (take (i + 1) amounts)) old
            (omega (arith, length-packed (take (i + 1) amounts), length-take-le (i + 1) amounts (omega arith)));
        are = new_is;
      }

  pub store_all : (i : ℕ) (cells : List ℕ) → length amounts ≤ i → StoredTo amounts old i cells → cells ≡ over (packed amounts) old
  store_all i cells h d = d.are ∙ ap (λ (l : List ℕ). over (packed l) old) (take_all i amounts h)
