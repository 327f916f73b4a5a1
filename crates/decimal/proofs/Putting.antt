-- Parts written one after the other are one part: each is laid where the one before ended.
use mathlib.Core.Path.{sym, ap, ◌∙◌}
use mathlib.Core.List.{List, [], ◌∷◌, ◌++◌}
use Prim.Native.Nat.{ℕ, ◌+◌, ◌/◌, ◌%◌, ◌≤◌, ◌<◌}
use native.Mathlib.Omega.{arith}
use lib.ListN.{length, set, length-append}
use Rattle.chain.specs.Written.{laid}
use Rattle.chain.proofs.Written.{laid_nil, laid-length, laid_one, laid_laid}
use Rattle.decimal.specs.Decimal.{decimal}
use Rattle.decimal.specs.Inner.{Put}
use Rattle.decimal.proofs.Decimal.{decimal_digit, decimal_more, digit-length, more-length}

-- nothing yet
pub put_none : (at : ℕ) (l : List ℕ) → Put at [] l at l
put_none at l = record { place = omega arith; text = sym (laid_nil at l) }

-- `l` was the text, `l'` is it after the part s
module _ (at : ℕ) (s l : List ℕ) (m : ℕ) (l' : List ℕ) (w : Put at s l m l') where
  -- a part more
  pub put_more : (t : List ℕ) (e : ℕ) (l'' : List ℕ) → at ≤ length l → Put m t l' e l'' → Put at (s ++ t) l e l''
  put_more t e l'' h v =
      record {
        place = omega (arith, w.place, v.place, length-append s t);
        text = v.text ∙ ap (laid m t) w.text ∙ laid_laid at m s t l w.place h;
      }

  -- a byte more
  pub put_one : (x : ℕ) → at + length s < length l → Put at (s ++ x ∷ []) l (m + 1) (set l' m x)
  put_one x h =
      let room : m < length (laid at s l) = omega (arith, w.place, laid-length at s l (omega arith)) in
      record {
        place = omega (arith, w.place, length-append s (x ∷ []));
        text =
            ap (λ (t : List ℕ). set t m x) w.text
            ∙ sym (laid_nil (m + 1) (set (laid at s l) m x))
            ∙ laid_one m x [] (laid at s l) room
            ∙ laid_laid at m s (x ∷ []) l w.place (omega arith);
      }

-- a number of one digit
pub put_digit : (at x : ℕ) (l : List ℕ) → x < 10 → at + length (decimal x) ≤ length l → Put at (decimal x) l (at + 1) (set l at (48 + x))
put_digit at x l h room =
    let one = digit-length x h in
    rw (decimal_digit x h) (put_one at [] l at l (put_none at l) (48 + x) (omega arith))

-- a number of several: all but the last were written before
pub put_digits : (at x : ℕ) (l : List ℕ) (m : ℕ) (l' : List ℕ) → 10 ≤ x → at + length (decimal x) ≤ length l → Put at (decimal (x / 10)) l m l'
    → Put at (decimal x) l (m + 1) (set l' m (48 + x % 10))
put_digits at x l m l' h room w =
    let more = more-length x h in
    rw (decimal_more x h) (put_one at (decimal (x / 10)) l m l' w (48 + x % 10) (omega arith))
