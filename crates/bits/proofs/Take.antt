-- Eight bytes as one word cover any field of up to 56 bits from any bit on, so a shift and a remainder of the word are the field, and of two fields each.
use mathlib.Core.Path.{◌≡◌, refl, sym, ap, ap₂, ◌∙◌}
use mathlib.Core.List.{List, [], ◌∷◌, ◌++◌}
use Prim.Native.Nat.{ℕ, zero, suc, ◌+◌, ◌-◌, ◌*◌, ◌/◌, ◌%◌, ◌^◌, ◌≤◌, ◌<◌, min}
use native.Mathlib.Nat.{one-mul, zero-mul, div-add-mod'}
use native.Mathlib.Omega.{arith}
use lib.ListN.{length, get_or, get_or-eq_default}
use lib.Dec.{lit<}
use lib.Pow.{shl_exact, shr-shr}
use Rattle.bits.specs.Bits.{value, bytes_bits, field_at}
use Rattle.bits.specs.Inner.{widest_field, window, ByteAt, WordAt, FieldRoom, FieldTaken, TwoRoom, TwoTaken}
use Rattle.bits.proofs.Values.{value_lt, value-append}
use Rattle.bits.proofs.Fields.{length-bytes_bits, bytes_bits-append, length-window, field_window, value_bytes, field_lt}

no_bytes : value (bytes_bits []) ≡ 0
unfolding value bytes_bits
no_bytes = refl

four : (a b c d : ℕ) → a < 256 → b < 256 → c < 256 → d < 256 → value (bytes_bits (a ∷ b ∷ c ∷ d ∷ [])) ≡ ((a * 256 + b) * 256 + c) * 256 + d
four a b c d ha hb hc hd =
    omega (arith, value_bytes a (b ∷ c ∷ d ∷ []) ha, value_bytes b (c ∷ d ∷ []) hb, value_bytes c (d ∷ []) hc, value_bytes d [] hd, no_bytes)

-- what n bytes spell is a word
word_is : (n : ℕ) (l : List ℕ) (i r : ℕ) → r ≡ value (bytes_bits (window n l i)) → WordAt n l i r
word_is n l i r e =
    let long : length (bytes_bits (window n l i)) ≡ n * 8 = length-bytes_bits (window n l i) ∙ ap (λ (k : ℕ). k * 8) (length-window n l i) in
    record { is = e; small = rw (e, ← long) (value_lt (bytes_bits (window n l i))) }

pub gathered : (l : List ℕ) (i a b c d : ℕ) → ByteAt l i a → ByteAt l (i + 1) b → ByteAt l (i + 2) c → ByteAt l (i + 3) d
    → WordAt 4 l i (((a * 256 + b) * 256 + c) * 256 + d)
unfolding window
gathered l i a b c d pa pb pc pd =
    let at : (j k x : ℕ) → j ≡ k → x ≡ get_or l j 0 → x ≡ get_or l k 0 = λ j k x e p. p ∙ ap (λ (m : ℕ). get_or l m 0) e in
    word_is 4 l i _
    (sym (four a b c d pa.small pb.small pc.small pd.small)
    ∙ ap₂ (λ (x : ℕ) (r : List ℕ). value (bytes_bits (x ∷ r))) pa.is
    (ap₂ (λ (x : ℕ) (r : List ℕ). x ∷ r) (at (i + 1) (suc i) b (omega arith) pb.is)
    (ap₂ (λ (x : ℕ) (r : List ℕ). x ∷ r) (at (i + 2) (suc (suc i)) c (omega arith) pc.is)
    (ap (λ (x : ℕ). x ∷ []) (at (i + 3) (suc (suc (suc i))) d (omega arith) pd.is)))))

window_halves : (l : List ℕ) (i : ℕ) → window 8 l i ≡ window 4 l i ++ window 4 l (i + 4)
unfolding window
window_halves l i =
    let e : suc (suc (suc (suc i))) ≡ i + 4 = omega arith in
    ap (λ (k : ℕ). window 4 l i ++ window 4 l k) e

-- two words, one behind the other
pub joined : (l : List ℕ) (i x y : ℕ) → WordAt 4 l i x → WordAt 4 l (i + 4) y → WordAt 8 l i (x * 2 ^ 32 + y)
joined l i x y hx hy =
    let a : List ℕ = window 4 l i in
    let b : List ℕ = window 4 l (i + 4) in
    let long : length (bytes_bits b) ≡ 32 = length-bytes_bits b ∙ ap (λ (n : ℕ). n * 8) (length-window 4 l (i + 4)) in
    word_is 8 l i _
    (ap₂ (λ (m n : ℕ). m * 2 ^ 32 + n) hx.is hy.is
    ∙ ap (λ (n : ℕ). value (bytes_bits a) * 2 ^ n + value (bytes_bits b)) (sym long)
    ∙ sym (ap value (ap bytes_bits (window_halves l i) ∙ bytes_bits-append a b) ∙ value-append (bytes_bits a) (bytes_bits b)))

-- byte by byte: x is what the first j bytes come to, and the others are still to be added
pub record Gathering (l : List ℕ) (i x j : ℕ) : Type 0 where
  pub within : i + j ≤ length l
  pub is : value (bytes_bits (window 8 l i)) ≡ x + value (bytes_bits (window (8 - j) l (i + j)))

-- past the end there is nothing to add
nothing_past : (n : ℕ) (l : List ℕ) (i : ℕ) → length l ≤ i → value (bytes_bits (window n l i)) ≡ 0
unfolding window
nothing_past zero l i h = no_bytes
nothing_past (suc n) l i h =
    let rest : List ℕ = window n l (suc i) in
    ap (λ (b : ℕ). value (bytes_bits (b ∷ rest))) (get_or-eq_default l 0 h)
    ∙ value_bytes 0 rest (lit< tt) ∙ omega (arith, zero-mul (2 ^ (length rest * 8)), nothing_past n l (suc i) (omega arith))

pub gather_start : (l : List ℕ) (i : ℕ) → i ≤ length l → Gathering l i 0 0
gather_start l i h =
    let e : i ≡ i + 0 = omega arith in
    record { within = omega arith; is = ap (λ (k : ℕ). value (bytes_bits (window 8 l k))) e ∙ omega arith }

module _ (l : List ℕ) (i x j : ℕ) (inv : Gathering l i x j) where
  pub gather_end : length l ≤ i + j → WordAt 8 l i x
  gather_end h = word_is 8 l i x (omega (arith, inv.is, nothing_past (8 - j) l (i + j) h))

  module _ (short : length l < i + 8) (h : i + j < length l) (b : ℕ) (is : ByteAt l (i + j) b) where
    shifted : b * 2 ^ (56 - 8 * j) % 2 ^ 64 ≡ b * 2 ^ (56 - 8 * j)
    shifted = shl_exact 8 (56 - 8 * j) 64 is.small (omega arith)

    next_byte : value (bytes_bits (window (8 - j) l (i + j))) ≡ b * 2 ^ (56 - 8 * j) + value (bytes_bits (window (8 - (j + 1)) l (i + (j + 1))))
    unfolding window
    next_byte =
        let n : ℕ = 8 - (j + 1) in
        let m : 8 - j ≡ suc n = omega arith in
        let k : suc (i + j) ≡ i + (j + 1) = omega arith in
        let e : length (window n l (i + (j + 1))) * 8 ≡ 56 - 8 * j = ap (λ (z : ℕ). z * 8) (length-window n l (i + (j + 1))) ∙ omega arith in
        ap (λ (z : ℕ). value (bytes_bits (window z l (i + j)))) m
        ∙ ap₂ (λ (y z : ℕ). value (bytes_bits (y ∷ window n l z))) (sym is.is) k
        ∙ value_bytes b (window n l (i + (j + 1))) is.small
        ∙ ap (λ (z : ℕ). b * 2 ^ z + value (bytes_bits (window n l (i + (j + 1))))) e

    pub gather_on : Gathering l i (x + b * 2 ^ (56 - 8 * j) % 2 ^ 64) (j + 1)
    gather_on = record { within = omega arith; is = omega (arith, inv.is, next_byte, shifted) }

    pub gather_fits : x + b * 2 ^ (56 - 8 * j) % 2 ^ 64 < 2 ^ 64
    gather_fits = omega (arith, gather_on.is, (word_is 8 l i _ refl).small)

one_shl : (w : ℕ) → w ≤ widest_field → 1 * 2 ^ w % 2 ^ 64 ≡ 2 ^ w
one_shl w h = shl_exact 1 w 64 (lit< tt) (omega arith) ∙ one-mul (2 ^ w)

-- eight bytes from i on, shifted and cut to a field that stands o bits behind their begin
module _ (l : List ℕ) (i g : ℕ) (got : WordAt 8 l i g) where
  cut : (o k at w : ℕ) → w ≤ widest_field → at ≡ i * 8 + o → o + w ≤ 64 → at + w ≤ 8 * length l → k ≡ 64 - (o + w)
      → g / 2 ^ k % (1 * 2 ^ w % 2 ^ 64) ≡ field_at l at w
  cut o k at w narrow place covered within e =
      ap₂ (λ (x m : ℕ). x / 2 ^ k % m) got.is (one_shl w narrow)
      ∙ ap (λ (n : ℕ). value (bytes_bits (window 8 l i)) / 2 ^ n % 2 ^ w) e
      ∙ sym (field_window 8 l i o at w place covered within)

field_is : (l : List ℕ) (at w v next : ℕ) → v ≡ field_at l at w → next ≡ at + w → FieldTaken l at w v next
field_is l at w v next is moved = record { is = is; small = rw is (field_lt l at w); moved = moved }

module _ (l : List ℕ) (at w : ℕ) where
  pub taken : (g : ℕ) → FieldRoom l at w → WordAt 8 l (at / 8) g → FieldTaken l at w (g / 2 / 2 ^ (63 - (at % 8 + w)) % (1 * 2 ^ w % 2 ^ 64)) (at + w)
  taken g room got =
      let r : ℕ = 63 - (at % 8 + w) in
      field_is l at w _ _
      (ap (λ (x : ℕ). x % (1 * 2 ^ w % 2 ^ 64)) (shr-shr g 1 r)
      ∙ cut l (at / 8) g got (at % 8) (1 + r) at w room.narrow (sym (div-add-mod' at 8)) (omega (arith, room.narrow)) room.within
      (omega (arith, room.narrow)))
      refl

  -- those from i on cover two fields
  pub two_taken : (i g : ℕ) → TwoRoom l at w → i ≡ min (at / 8) (length l - 8) → WordAt 8 l i g
      → let v : ℕ = g / 2 ^ (64 - (at - 8 * i + 2 * w)) in
      TwoTaken l at w (v / 2 ^ w % (1 * 2 ^ w % 2 ^ 64)) (v % (1 * 2 ^ w % 2 ^ 64)) (at + 2 * w)
  two_taken i g two begin got =
      let room = two.room in
      let o : ℕ = at - 8 * i in
      let r : ℕ = 64 - (o + 2 * w) in
      let place : at ≡ i * 8 + o = omega (arith, begin) in
      let covered : o + 2 * w ≤ 64 = omega (arith, begin, two.long, room.narrow, room.within) in
      let narrow : w ≤ widest_field = omega (arith, room.narrow) in
      record {
        first =
            field_is l at w _ _
            (ap (λ (x : ℕ). x % (1 * 2 ^ w % 2 ^ 64)) (shr-shr g r w)
            ∙ cut l i g got o (r + w) at w narrow place (omega (arith, covered)) (omega (arith, room.within)) (omega (arith, covered)))
            refl;
        second =
            field_is l (at + w) w _ _
            (cut l i g got (o + w) r (at + w) w narrow (omega (arith, place)) (omega (arith, covered)) (omega (arith, room.within)) (omega (arith, covered)))
            (omega arith);
      }
