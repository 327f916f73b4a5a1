-- Samples of phrases, computed.
use Rattle.std.specs.Prelude.{◌≡◌, refl, [], ◌∷◌, length}
use Rattle.chain.specs.Tests.{◌<?◌}
use Rattle.chain.specs.Written.{over}
use Rattle.phrases.specs.Phrases.{no_phrase, phrase, lacks, phrase_number, phrase_words, phrase_text}

pub record Samples : Type 0 where
  -- "edition", "sign"
  pub seventh : phrase 7 ≡ 101 ∷ 100 ∷ 105 ∷ 116 ∷ 105 ∷ 111 ∷ 110 ∷ []
  pub sign : phrase 106 ≡ 115 ∷ 105 ∷ 103 ∷ 110 ∷ []
  -- the last of each run is there, the numbers around the runs have none
  pub sixteenth : length (phrase 16) ≡ 41
  pub last : length (phrase 20) ≡ 24
  pub last_fault : length (phrase 107) ≡ 32
  pub zero : phrase 0 ≡ no_phrase
  pub past : phrase 21 ≡ no_phrase
  pub below : phrase 100 ≡ no_phrase
  pub above : phrase 108 ≡ no_phrase
  -- a text that just holds a phrase, and one that is a byte too short
  pub fits : phrase_text 106 (0 ∷ 0 ∷ 0 ∷ 0 ∷ 9 ∷ []) ≡ 115 ∷ 105 ∷ 103 ∷ 110 ∷ 9 ∷ []
  pub told : phrase_words 106 4 ≡ 4 ∷ 0 ∷ 0 ∷ 0 ∷ 0 ∷ 0 ∷ 0 ∷ 0 ∷ []
  pub none : phrase_number 106 4 ≡ 0
  pub short : phrase_text 106 (0 ∷ 0 ∷ 0 ∷ []) ≡ 0 ∷ 0 ∷ 0 ∷ []
  pub short_told : phrase_words 106 3 ≡ 0 ∷ 0 ∷ 0 ∷ 0 ∷ 0 ∷ 0 ∷ 0 ∷ 0 ∷ []
  pub refused : phrase_number 106 3 ≡ 5

pub samples_hold : Samples
unfolding ◌<?◌ over phrase lacks phrase_number phrase_words phrase_text
samples_hold =
    record {
      seventh = refl;
      sign = refl;
      sixteenth = refl;
      last = refl;
      last_fault = refl;
      zero = refl;
      past = refl;
      below = refl;
      above = refl;
      fits = refl;
      told = refl;
      none = refl;
      short = refl;
      short_told = refl;
      refused = refl;
    }
