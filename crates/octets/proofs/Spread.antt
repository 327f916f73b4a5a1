-- Bytes stored one after the other are the first of a number's bytes, laid over the buffer; eight of them are four, and then four.
use mathlib.Core.Path.{◌≡◌, refl, sym, ap, ap₂, ◌∙◌}
use mathlib.Core.List.{List, [], ◌∷◌, ◌++◌}
use Prim.Native.Nat.{ℕ, zero, suc, ◌+◌, ◌-◌, ◌*◌, ◌/◌, ◌%◌, ◌^◌, ◌≤◌}
use native.Mathlib.Nat.{zero-add, suc-add}
use native.Mathlib.Omega.{arith}
use lib.ListN.{length, take, set}
use lib.Seq.{take_all, take-append-le, take-append-add}
use lib.Pow.{shr-shr}
use Rattle.chain.specs.Written.{laid}
use Rattle.chain.proofs.Written.{laid_laid, cell_laid, cell_after}
use Rattle.octets.specs.Inner.{spread}

-- the first count bytes of head * 2 ^ 24 + x
module _ (l : List ℕ) (i count head x a : ℕ) (room : i + count ≤ length l) (ea : a ≡ (head + x / 2 ^ 24) % 256) where
  abbrev y : ℕ
  y = head * 2 ^ 24 + x

  is_a : a ≡ y / 2 ^ 24 % 256
  is_a = ea ∙ omega arith

  pub stored_one : count ≡ 1 → set l i a ≡ laid i (take count (spread 4 y)) l
  unfolding spread
  stored_one e = cell_laid l i a (omega arith) ∙ rw (e, is_a)

  module _ (b : ℕ) (eb : b ≡ x / 2 ^ 16 % 256) where
    is_b : b ≡ y / 2 ^ 16 % 256
    is_b = eb ∙ omega arith

    pub stored_two : count ≡ 2 → set (set l i a) (i + 1) b ≡ laid i (take count (spread 4 y)) l
    unfolding spread
    stored_two e = cell_after l _ (a ∷ []) i b 1 (cell_laid l i a (omega arith)) refl (omega arith) ∙ rw (e, is_a, is_b)

    module _ (c : ℕ) (ec : c ≡ x / 2 ^ 8 % 256) where
      is_c : c ≡ y / 2 ^ 8 % 256
      is_c = ec ∙ omega arith

      pub stored_three : count ≡ 3 → set (set (set l i a) (i + 1) b) (i + 2) c ≡ laid i (take count (spread 4 y)) l
      unfolding spread
      stored_three e =
          cell_after l _ (a ∷ b ∷ []) i c 2 (cell_after l _ (a ∷ []) i b 1 (cell_laid l i a (omega arith)) refl (omega arith)) refl (omega arith) ∙ rw (e, is_a, is_b, is_c)

      pub stored_four : (d : ℕ) → d ≡ x % 256 → count ≡ 4 → set (set (set (set l i a) (i + 1) b) (i + 2) c) (i + 3) d ≡ laid i (take count (spread 4 y)) l
      unfolding spread
      stored_four d ed e =
          let is-d : d ≡ y / 2 ^ 0 % 256 = ed ∙ omega arith in
          cell_after l _ (a ∷ b ∷ c ∷ []) i d 3
          (cell_after l _ (a ∷ b ∷ []) i c 2 (cell_after l _ (a ∷ []) i b 1 (cell_laid l i a (omega arith)) refl (omega arith)) refl (omega arith)) refl (omega arith)
          ∙ rw (e, is_a, is_b, is_c, is-d)

length-spread : (n x : ℕ) → length (spread n x) ≡ n
unfolding spread
length-spread zero x = refl
length-spread (suc n) x = ap suc (length-spread n x)

spread-add : (a b x : ℕ) → spread (a + b) x ≡ spread a (x / 2 ^ (b * 8)) ++ spread b x
unfolding spread
spread-add zero b x = ap (λ (k : ℕ). spread k x) (zero-add b)
spread-add (suc a) b x =
    let e : (a + b) * 8 ≡ b * 8 + a * 8 = omega arith in
    ap (λ (k : ℕ). spread k x) (suc-add a b)
    ∙ ap₂ (λ (n : ℕ) (r : List ℕ). n % 256 ∷ r) (ap (λ (k : ℕ). x / 2 ^ k) e ∙ sym (shr-shr x (b * 8) (a * 8))) (spread-add a b x)

-- the first count bytes of head * 2 ^ 56 + x: four of them, and then others
module _ (l : List ℕ) (i count head x : ℕ) (m : List ℕ) where
  abbrev word : ℕ
  word = head * 2 ^ 56 + x

  lower : spread 4 word ≡ spread 4 (0 * 2 ^ 24 + x)
  unfolding spread
  lower =
      let a : word / 2 ^ 24 % 256 ≡ (0 * 2 ^ 24 + x) / 2 ^ 24 % 256 = omega arith in
      let b : word / 2 ^ 16 % 256 ≡ (0 * 2 ^ 24 + x) / 2 ^ 16 % 256 = omega arith in
      let c : word / 2 ^ 8 % 256 ≡ (0 * 2 ^ 24 + x) / 2 ^ 8 % 256 = omega arith in
      let d : word / 2 ^ 0 % 256 ≡ (0 * 2 ^ 24 + x) / 2 ^ 0 % 256 = omega arith in
      cc

  halves : spread 8 word ≡ spread 4 (head * 2 ^ 24 + x / 2 ^ 32) ++ spread 4 (0 * 2 ^ 24 + x)
  halves =
      let e : word / 2 ^ 32 ≡ head * 2 ^ 24 + x / 2 ^ 32 = omega arith in
      spread-add 4 4 word ∙ ap₂ (λ (n : ℕ) (r : List ℕ). spread 4 n ++ r) e lower

  pub stored_some : (n : ℕ) → n ≡ count → n ≤ 4 → m ≡ laid i (take n (spread 4 (head * 2 ^ 24 + x / 2 ^ 32))) l → m ≡ laid i (take count (spread 8 word)) l
  stored_some n en h e =
      let a : List ℕ = spread 4 (head * 2 ^ 24 + x / 2 ^ 32) in
      let some = take-append-le n a (spread 4 (0 * 2 ^ 24 + x)) (omega (arith, length-spread 4 (head * 2 ^ 24 + x / 2 ^ 32))) in
      e ∙ ap (λ (t : List ℕ). laid i t l) (sym (ap (take n) halves ∙ some)) ∙ ap (λ (k : ℕ). laid i (take k (spread 8 word)) l) en

  pub stored_more : (new : List ℕ) → 4 ≤ count → i + count ≤ length l → m ≡ laid i (take 4 (spread 4 (head * 2 ^ 24 + x / 2 ^ 32))) l
      → new ≡ laid (i + 4) (take (count - 4) (spread 4 (0 * 2 ^ 24 + x))) m → new ≡ laid i (take count (spread 8 word)) l
  stored_more new h room e f =
      let a : List ℕ = spread 4 (head * 2 ^ 24 + x / 2 ^ 32) in
      let b : List ℕ = spread 4 (0 * 2 ^ 24 + x) in
      let la : length a ≡ 4 = length-spread 4 (head * 2 ^ 24 + x / 2 ^ 32) in
      let n : length a + (count - 4) ≡ count = omega arith in
      let t : take count (spread 8 word) ≡ a ++ take (count - 4) b =
      ap (take count) halves ∙ ap (λ (k : ℕ). take k (a ++ b)) (sym n) ∙ take-append-add a b (count - 4) in
      f ∙ ap (laid (i + 4) (take (count - 4) b)) (e ∙ ap (λ (r : List ℕ). laid i r l) (take_all 4 a (omega arith)))
      ∙ laid_laid i (i + 4) a (take (count - 4) b) l (omega arith) (omega arith)
      ∙ ap (λ (r : List ℕ). laid i r l) (sym t)
