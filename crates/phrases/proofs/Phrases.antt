-- A number that is none of a phrase has none, and a phrase fits the text or not.
use mathlib.Core.Path.{◌≡◌, refl, sym}
use mathlib.Core.List.{List, [], ◌∷◌}
use Prim.Native.Nat.{ℕ, zero, suc, ◌-◌, ◌≤◌, ◌<◌}
use native.Mathlib.Decide.{dec_lt}
use native.Mathlib.Omega.{arith}
use lib.ListN.{length, get_or, get_or-eq_default}
use Rattle.chain.specs.Written.{laid}
use Rattle.chain.proofs.Rules.{lt_yes, lt_no}
use Rattle.chain.proofs.Written.{over_laid}
use Rattle.decimal.proofs.Choices.{choosing}
use Rattle.phrases.specs.Phrases.{no_phrase, phrases, first_fault, fault_phrases, phrase, lacks, phrase_number, phrase_words, phrase_text}

-- the numbers of the two runs
pub unknown : (number : ℕ) → ((k : ℕ) → 0 < k → k < 21 → number ≡ k → ⊥) → ((k : ℕ) → 100 < k → k < 108 → number ≡ k → ⊥)
    → no_phrase ≡ phrase number
unfolding phrase
unknown number low high = by_size (dec_lt number 21) (dec_lt number first_fault) (dec_lt number 108)
  where
    listed : (n : ℕ) → n ≡ number → n < 21 → no_phrase ≡ get_or phrases n no_phrase
    listed zero e h = refl
    listed (suc n) e h = absurd (low (suc n) (omega arith) h (sym e))

    by_size : Dec (number < 21) → Dec (number < first_fault) → Dec (number < 108) → no_phrase ≡ phrase number
    by_size (yes h) g k = rw (lt_yes number first_fault (omega arith)) (listed number refl h)
    by_size (no h) (yes g) k = rw (lt_yes number first_fault g) (sym (get_or-eq_default phrases no_phrase {n = number} (omega arith)))
    by_size (no h) (no g) (yes k) = absurd (high number (omega arith) k refl)
    by_size (no h) (no g) (no k) =
        rw (lt_no number first_fault (omega arith)) (sym (get_or-eq_default fault_phrases no_phrase {n = number - first_fault} (omega arith)))

-- the phrase fits, or not: what is returned, told and written
module _ (number : ℕ) (text words : List ℕ) (is : words ≡ phrase number) where
  module _ (short : length text < length words) where
    short' : length text < length (phrase number)
    short' = rw is at short

    pub phrase_refused : (5 ≡ phrase_number number (length text)) ×
        ((0 ∷ 0 ∷ 0 ∷ 0 ∷ 0 ∷ 0 ∷ 0 ∷ 0 ∷ [] ≡ phrase_words number (length text)) × (text ≡ phrase_text number text))
    unfolding phrase_number phrase_words phrase_text lacks
    phrase_refused = let h = short' in (search choosing, (search choosing, search choosing))

  module _ (room : length words ≤ length text) (put : List ℕ) (same : put ≡ laid 0 words text) where
    room' : length (phrase number) ≤ length text
    room' = rw is at room

    pub phrase_told : (0 ≡ phrase_number number (length text)) ×
        ((length words ∷ 0 ∷ 0 ∷ 0 ∷ 0 ∷ 0 ∷ 0 ∷ 0 ∷ [] ≡ phrase_words number (length text))
        × (put ≡ phrase_text number text))
    unfolding phrase_number phrase_words phrase_text lacks
    phrase_told = let h = room' in rw (same, sym (over_laid words text), is) (search choosing, (search choosing, search choosing))
