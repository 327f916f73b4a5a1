-- The words fit the text or not.
use Rattle.phrases.proofs.Phrases.{phrase_refused, phrase_told}
use Rattle.phrases.proofs.phrase.Goals as goal

pub returns-then-text-words : goal.returns-then-text-words
returns-then-text-words c =
    let says = phrase_refused _ _ _ c.wording-words.ensures c.if-text-words.true in
    record { value = says.0; answer_after = says.1.0; text_after = says.1.1 }

pub returns : goal.returns
returns c =
    let says = phrase_told _ _ _ c.wording-words.ensures c.if-text-words.false _ c.put_word.ensures.text in
    record { value = says.0; answer_after = says.1.0; text_after = says.1.1 }
