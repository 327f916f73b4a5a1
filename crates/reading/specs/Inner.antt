-- Inner vocabulary: what the functions that read ask of bytes and of an extent, and find. Nobody has to believe it to believe an entry point's promise.
use Rattle.refusal.specs.declared.Refusal.{Refusal}
use Rattle.refusal.specs.Reasons.{number_of}
use Rattle.std.specs.Prelude.{Result, Ok, Err, ◌≡◌, List, ◌∷◌, ℕ, ◌+◌, ◌-◌, ◌*◌, ◌/◌, ◌^◌, ◌≤◌, ◌<◌, length}
use Rattle.chain.specs.Tests.{◌<?◌, ◌≠?◌, ◌or◌}
use Rattle.chain.specs.Verdict.{Verdict, fine, refused, ◌then◌, refuse_if, Answer, answer, on_fine}
use Rattle.chain.specs.Written.{over}
use Rattle.chain.specs.Chain.{pairs, flat, length_rule, chain_rule, squarings_of, counts}
use Rattle.chain.specs.Inner.{counted_by}
use Rattle.chain.specs.declared.Step.{Step}
use Rattle.bits.specs.Bits.{bytes_for, field_at, fields_at}
use Rattle.fields.specs.Inner.{widest_number}
use Rattle.layout.specs.declared.Layout.{Layout}
use Rattle.layout.specs.declared.Extent.{Extent}
use Rattle.layout.specs.File.{edition_of, columns_of, payslips_of, length_of, read_answer, read_steps, read_outputs}
use Rattle.layout.specs.Inner.{extent_of}
use Rattle.reading.specs.declared.Header.{Header}

-- bytes that have a header in which n takes so many bits, and what it says
pub record HeaderRoom (bytes : List ℕ) (bits : ℕ) : Type 0 where
  pub long : 4 ≤ length bytes
  pub short : 14 + bits ≤ 8 * 4

abbrev pub header_in : List ℕ → ℕ → Header
header_in bytes bits =
    record { edition = edition_of bytes; p = columns_of bytes; q = payslips_of bytes; n = field_at bytes 14 bits }

-- the extent that the header of bytes gives
abbrev pub extent_in : Layout → List ℕ → Extent
extent_in L bytes = extent_of L (columns_of bytes) (payslips_of bytes) (length_of L bytes)

-- the reader's rules up to the header's: 6 (under 4 bytes), 7, 4
unfoldable pub header_rule : Layout → List ℕ → Verdict
header_rule L bytes =
    refuse_if (length bytes <? 4) 6 0
    then refuse_if (edition_of bytes ≠? L.edition) 7 0
    then length_rule L.limit (length_of L bytes)

-- what the judge of the header hands on
abbrev pub headed : Layout → List ℕ → Result Extent Refusal → Type 0
headed L bytes (Ok x) = (fine ≡ header_rule L bytes) × (x ≡ extent_in L bytes)
headed L bytes (Err r) = refused (number_of r.reason) r.place ≡ header_rule L bytes

-- an extent whose parts add up, with numbers that are small enough
pub record Proper (x : Extent) : Type 0 where
  pub narrow : x.width ≤ widest_number
  pub some : 0 < x.width
  pub parts : x.total ≡ x.start + 2 * x.n * x.width + x.q * x.width
  pub low : x.total < 2 ^ 32
  pub whole : x.bytes ≡ bytes_for x.total
  pub top : x.p + x.n < 2 ^ 32

-- and bytes that hold it
pub record Contained (bytes : List ℕ) (x : Extent) : Type 0 where
  pub proper : Proper x
  pub within : x.total ≤ 8 * length bytes

-- and are eight or more
pub record LongContained (bytes : List ℕ) (x : Extent) : Type 0 where
  pub long : 8 ≤ length bytes
  pub contained : Contained bytes x

-- the chain that stands in bytes by an extent
module _ (bytes : List ℕ) (x : Extent) where
  abbrev pub file_steps : List Step
  file_steps = pairs (fields_at bytes x.start x.width (2 * x.n))

  abbrev pub file_outputs : List ℕ
  file_outputs = fields_at bytes (x.start + 2 * x.n * x.width) x.width x.q

  -- what is found of it, and how many of its steps are squarings
  abbrev pub chain_counted : Answer
  chain_counted = counted_by (chain_rule x.p file_steps file_outputs) (squarings_of file_steps)

  -- the reader's rules after the header's: 6, 5, 8, steps, 12
  unfoldable pub body_rule : ℕ → ℕ → Verdict
  body_rule pairs_lent outputs_lent =
      refuse_if (length bytes ≠? x.bytes) 6 0
      then refuse_if (pairs_lent <? x.n or outputs_lent <? x.q) 5 0
      then refuse_if (field_at bytes x.total (8 * length bytes - x.total) ≠? 0) 8 0
      then chain_rule x.p file_steps file_outputs

  -- what reading by an extent answers and leaves
  pub record BodyRead (steps outputs : List ℕ) (a : Answer) (steps' outputs' : List ℕ) : Type 0 where
    pub answered : a ≡ answer (body_rule (length steps / 2) (length outputs)) (x.p ∷ x.q ∷ counts file_steps)
    pub steps_left_lem : steps' ≡ on_fine (body_rule (length steps / 2) (length outputs)) (over (flat file_steps) steps) steps
    pub outputs_left : outputs' ≡ on_fine (body_rule (length steps / 2) (length outputs)) (over file_outputs outputs) outputs

-- what reading in a layout answers and leaves
pub record FileRead (L : Layout) (bytes steps outputs : List ℕ) (a : Answer) (steps' outputs' : List ℕ) : Type 0 where
  pub answered : a ≡ read_answer L bytes (length steps / 2) (length outputs)
  pub steps_left_lem : steps' ≡ read_steps L bytes (length outputs) steps
  pub outputs_left : outputs' ≡ read_outputs L bytes (length steps / 2) outputs

-- two lists of fields that were read, one behind the other
pub record ListsTaken (bytes : List ℕ) (at w n q : ℕ) (steps outputs steps' outputs' : List ℕ) : Type 0 where
  pub steps_taken : steps' ≡ over (fields_at bytes at w (2 * n)) steps
  pub outputs_taken : outputs' ≡ over (fields_at bytes (at + 2 * n * w) w q) outputs
