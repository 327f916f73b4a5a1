-- What each call's answer says where nothing is refused (Spec 10.6): its values in their order.
use Rattle.std.specs.Prelude.{Result, Ok, Err, List, [], ◌∷◌, ℕ}
use Rattle.refusal.specs.declared.Refusal.{Refusal}
use Rattle.refusal.specs.Reasons.{number_of}
use Rattle.answers.specs.declared.Counts.{Counts}
use Rattle.answers.specs.declared.Quote.{Quote}
use Rattle.answers.specs.declared.FileSize.{FileSize}
use Rattle.answers.specs.declared.ReadChain.{ReadChain}
use Rattle.answers.specs.declared.Figures.{Figures}
use Rattle.answers.specs.declared.Chosen.{Chosen}
use Rattle.answers.specs.declared.Chosen.TheVariants.{First, Second}

-- compile, check, pool, and run, whose steps are the multiplications made (Req 05): n, the squarings and the other products
abbrev pub counts_in : Counts → List ℕ
counts_in c = c.steps ∷ c.squarings ∷ c.products ∷ []

-- ceiling: the count and the ceiling
abbrev pub quote_in : Quote → List ℕ
quote_in q = q.count ∷ q.ceiling ∷ []

-- extent: W and the number of bytes
abbrev pub size_in : FileSize → List ℕ
size_in s = s.width ∷ s.bytes ∷ []

-- read: p, q and the chain's counts
abbrev pub chain_in : ReadChain → List ℕ
chain_in r = r.p ∷ r.q ∷ counts_in r.counts

-- Spec 7.3, the whole path: the steps that compile and read return and the multiplications made
abbrev pub figures_in : Figures → List ℕ
figures_in f = f.compiled ∷ f.read ∷ f.made ∷ []

-- Spec 8: which file the chooser hands back, or the refusal
pub data Choice : Type 0 where
  first : Choice
  second : Choice
  neither : ℕ → ℕ → Choice

abbrev pub choice_of : Result Chosen Refusal → Choice
choice_of (Ok First) = first
choice_of (Ok Second) = second
choice_of (Err r) = neither (number_of r.reason) r.place
