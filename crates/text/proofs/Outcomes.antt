-- A text of numbers comes to what its parts come to: it is cut off, or read.
use mathlib.Core.Path.{◌≡◌, refl, sym, ap, ◌∙◌}
use mathlib.Core.Bool.{Bool, true, false}
use mathlib.Core.List.{List, []}
use Prim.Native.Nat.{ℕ, ◌-◌}
use lib.ListN.{length, take, drop}
use Rattle.chain.specs.Written.{over}
use Rattle.chain.proofs.Written.{over_laid, laid_nil}
use Rattle.text.specs.declared.Parting.TheVariants.{Free}
use Rattle.std.specs.Prelude.{Ok, Err}
use Rattle.places.specs.declared.Fault.{Fault}
use Rattle.places.specs.declared.Refusal.{Refusal}
use Rattle.text.specs.declared.Flaw.{Flaw}
use Rattle.places.specs.Faults.{number_of}
use Rattle.places.specs.Places.{mark_length, body_of, is_cut, refused_at, spot_of, cut_text, Read, values, number_told, words_told}
use Rattle.text.specs.Text.{read_text, Parsed, told_numbers, numbers_found, outcome, Outcome, numbers_in}
use Rattle.places.specs.Inner.{ReadTold}
use Rattle.places.proofs.Marks.{body_part}
use Rattle.text.specs.Inner.{FoundTo, ReadTo}

-- nothing is stored
pub over_none : (old : List ℕ) → old ≡ over [] old
over_none old = sym (over_laid [] old ∙ laid_nil 0 old)

-- an outcome that is another
pub read_same : (o o' : Outcome) (old : List ℕ) (a : Read) (new : List ℕ) → o ≡ o' → ReadTo o old a new → ReadTo o' old a new
read_same o o' old a new e r = rw e at r

module _ (text : List ℕ) (t : Bool) (told : t ≡ is_cut text) where
  module _ (n : ℕ) (cut : t ≡ true) where
    numbers_out : outcome (Err (cut_text text)) [] ≡ numbers_in text n
    unfolding numbers_in
    numbers_out = rw (← told, cut)

    pub numbers_cut : (old : List ℕ) (r : Refusal Fault) → r ≡ cut_text text → ReadTo (numbers_in text n) old (Err r) old
    numbers_cut old r e =
        read_same _ _ old (Err r) old numbers_out (record { answered = ap (λ (x : Refusal Fault). Err x) e; stored = over_none old })

  module _ (n : ℕ) (whole : t ≡ false) where
    numbers_on : numbers_found text (read_text Free text n) ≡ numbers_in text n
    unfolding numbers_in
    numbers_on = rw (← told, whole)

    numbers_read : (old : List ℕ) (p : Parsed) (a : Read) (new : List ℕ) → FoundTo (read_text Free text n) 0 old p new → a ≡ told_numbers text p → ReadTo (numbers_in text n) old a new
    numbers_read old p a new r e =
        read_same _ _ old a new numbers_on
        (record { answered = e ∙ ap (told_numbers text) r.answered; stored = r.stored ∙ sym (over_laid _ old) })

    pub numbers_count : (old : List ℕ) (x : ℕ) (new : List ℕ) → FoundTo (read_text Free text n) 0 old (Ok x) new → ReadTo (numbers_in text n) old (values x 0) new
    numbers_count old x new r = numbers_read old (Ok x) _ new r refl

    pub numbers_flaw : (old : List ℕ) (f : Flaw) (r : Refusal Fault) (new : List ℕ) → FoundTo (read_text Free text n) 0 old (Err f) new
        → r ≡ refused_at f.fault (spot_of text f.place) f.found f.wanted → ReadTo (numbers_in text n) old (Err r) new
    numbers_flaw old f r new h e = numbers_read old (Err f) _ new h (ap (λ (x : Refusal Fault). Err x) e)

-- what is read of the text after its mark is told
pub body_told : (f : List ℕ → ℕ → Outcome) (text : List ℕ) (start n : ℕ) (old : List ℕ) (a : Read) (new : List ℕ) (number : ℕ) (words : List ℕ)
    → start ≡ mark_length text → ReadTo (f (take (length text - start) (drop start text)) n) old a new → ReadTold number_of a number words
    → let o = f (body_of text) n in (number ≡ number_told o.answer) × ((words ≡ words_told o.answer) × (new ≡ over o.numbers old))
body_told f text start n old a new number words e r t =
    let s = read_same _ _ old a new (ap (λ (b : List ℕ). f b n) (body_part text start e)) r in
    (t.number_is ∙ ap number_told s.answered, (t.words_are ∙ ap words_told s.answered, s.stored))
