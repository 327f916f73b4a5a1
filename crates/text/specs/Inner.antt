-- Inner vocabulary: what the functions of this crate leave. Nobody has to believe it to believe an entry point's promise.
use Rattle.std.specs.Prelude.{◌≡◌, List, ℕ, get_or}
use Rattle.chain.specs.Written.{over, laid}
use Rattle.text.specs.declared.Parting.{Parting}
use Rattle.text.specs.declared.Kind.{Kind}
use Rattle.places.specs.Places.{Read}
use Rattle.text.specs.Text.{end_kind, kinds_of, Parsed, Found, Outcome}

-- the kind at a place of a text, counted from 0
unfoldable pub kind_at : Parting → List ℕ → ℕ → Kind
kind_at by text i = get_or (kinds_of by text) i (end_kind by)

-- what was found is what was answered, and stored from a cell on
pub record FoundTo (f : Found) (from : ℕ) (old : List ℕ) (answer : Parsed) (new : List ℕ) : Type 0 where
  pub answered : answer ≡ f.answer
  pub stored : new ≡ laid from f.numbers old

-- an outcome is what was answered and stored
pub record ReadTo (o : Outcome) (old : List ℕ) (answer : Read) (new : List ℕ) : Type 0 where
  pub answered : answer ≡ o.answer
  pub stored : new ≡ over o.numbers old
