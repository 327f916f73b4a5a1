-- The file of a chain in any layout L (Spec 5), written and read (Spec 7.2).
use Rattle.std.specs.Prelude.{◌≡◌, Bool, List, [], ◌∷◌, ◌++◌, ℕ, ◌+◌, ◌-◌, ◌*◌, ◌/◌, length}
use Rattle.chain.specs.Tests.{◌<?◌, ◌≠?◌, ◌or◌}
use Rattle.chain.specs.Verdict.{Verdict, fine, ◌then◌, refuse_if, Answer, answer, on_fine}
use Rattle.chain.specs.Written.{over}
use Rattle.chain.specs.Chain.{most_payslips, pairs, flat, length_rule, shape_rule, chain_rule, counts}
use Rattle.chain.specs.declared.Step.{Step}
use Rattle.digits.specs.Digits.{bit_length}
use Rattle.bits.specs.Bits.{bits, fields, pack, bytes_for, field_at, fields_at}
use Rattle.layout.specs.declared.Layout.{Layout}
use Rattle.layout.specs.Layout.{edition1}

-- Spec 5.2: W
abbrev pub width : ℕ → ℕ → ℕ
width p n = bit_length (p + n)

-- W of the longest chain
abbrev pub widest : ℕ
widest = 14

-- Spec 5.1: what any bytes say before n, read as a file
module _ (bytes : List ℕ) where
  abbrev pub edition_of : ℕ
  edition_of = field_at bytes 0 4

  abbrev pub columns_of : ℕ
  columns_of = field_at bytes 4 4 + 1

  abbrev pub payslips_of : ℕ
  payslips_of = field_at bytes 8 6 + 1

module _ (L : Layout) where
  -- Spec 5.1: edition, p − 1, q − 1 and n, which has the layout's bits
  abbrev pub header_bits : ℕ → ℕ → ℕ → List Bool
  header_bits p q n = bits 4 L.edition ++ bits 4 (p - 1) ++ bits 6 (q - 1) ++ bits L.bits n

  -- how many they are
  abbrev pub header_size : ℕ
  header_size = 14 + L.bits

  -- Spec 5.1: and then the operands of the steps in turn and the outputs, in W bits each
  unfoldable pub file_bits : ℕ → List Step → List ℕ → List Bool
  file_bits p steps outputs =
      header_bits p (length outputs) (length steps)
      ++ (fields (width p (length steps)) (flat steps) ++ fields (width p (length steps)) outputs)

  -- Spec 5.3: bits before the filling, and bytes with it
  abbrev pub bit_count : ℕ → ℕ → ℕ → ℕ
  bit_count p q n = header_size + (2 * n + q) * width p n

  abbrev pub byte_count : ℕ → ℕ → ℕ → ℕ
  byte_count p q n = bytes_for (bit_count p q n)

  -- Spec 7.6, 10.2, 10.6: the extent of a file, told from its sizes: 1, 4 by the edition's limit; W and the number of bytes
  unfoldable pub extent_answer : ℕ → ℕ → ℕ → Answer
  extent_answer p q n = answer (shape_rule L.limit p q n) (width p n ∷ byte_count p q n ∷ [])

  -- Spec 5.5: the chain's one file
  unfoldable pub file_of : ℕ → List Step → List ℕ → List ℕ
  file_of p steps outputs = pack (byte_count p (length outputs) (length steps)) (file_bits p steps outputs)

  -- a legal chain that the edition holds: 1, 4 by the edition's limit, steps, 12
  unfoldable pub held_rule : ℕ → List Step → List ℕ → Verdict
  held_rule p steps outputs =
      shape_rule L.limit p (length outputs) (length steps)
      then chain_rule p steps outputs

  abbrev pub Held : ℕ → List Step → List ℕ → Type 0
  Held p steps outputs = held_rule p steps outputs ≡ fine

  -- Spec 10.2: write's order; the last argument is how many bytes are lent
  unfoldable pub write_rule : ℕ → List Step → List ℕ → ℕ → Verdict
  write_rule p steps outputs bytes_lent =
      held_rule p steps outputs
      then refuse_if (bytes_lent <? byte_count p (length outputs) (length steps)) 5 0

  -- Spec 10.6: the number of bytes
  unfoldable pub write_answer : ℕ → List Step → List ℕ → ℕ → Answer
  write_answer p steps outputs bytes_lent =
      answer (write_rule p steps outputs bytes_lent) (byte_count p (length outputs) (length steps) ∷ [])

  -- Spec 10.5: what the lent bytes are afterwards; they were old before
  unfoldable pub write_bytes : ℕ → List Step → List ℕ → List ℕ → List ℕ
  write_bytes p steps outputs old = on_fine (write_rule p steps outputs (length old)) (over (file_of p steps outputs) old) old

  -- what any bytes say, read as a file
  module _ (bytes : List ℕ) where
    abbrev pub length_of : ℕ
    length_of = field_at bytes 14 L.bits

    abbrev pub width_of : ℕ
    width_of = width (columns_of bytes) length_of

    unfoldable pub steps_of : List Step
    steps_of = pairs (fields_at bytes header_size width_of (2 * length_of))

    unfoldable pub outputs_of : List ℕ
    outputs_of = fields_at bytes (header_size + 2 * length_of * width_of) width_of (payslips_of bytes)

    -- the bits before the filling, and the filling bits as a number
    abbrev pub bits_of : ℕ
    bits_of = bit_count (columns_of bytes) (payslips_of bytes) length_of

    abbrev pub filling_of : ℕ
    filling_of = field_at bytes bits_of (8 * length bytes - bits_of)

    -- Spec 10.2: read's order; the arguments are how many pairs and outputs are lent
    unfoldable pub read_rule : ℕ → ℕ → Verdict
    read_rule pairs_lent outputs_lent =
        refuse_if (length bytes <? 4) 6 0
        then refuse_if (edition_of bytes ≠? L.edition) 7 0
        then length_rule L.limit length_of
        then refuse_if (length bytes ≠? bytes_for bits_of) 6 0
        then refuse_if (pairs_lent <? length_of or outputs_lent <? payslips_of bytes) 5 0
        then refuse_if (filling_of ≠? 0) 8 0
        then chain_rule (columns_of bytes) steps_of outputs_of

    -- Spec 10.6, Req 05: p, q and n, and of its n steps the squarings and the other products
    unfoldable pub read_answer : ℕ → ℕ → Answer
    read_answer pairs_lent outputs_lent =
        answer (read_rule pairs_lent outputs_lent) (columns_of bytes ∷ payslips_of bytes ∷ counts steps_of)

    -- Spec 10.5: what the lent slices are afterwards, steps in turn; each was old before
    unfoldable pub read_steps : ℕ → List ℕ → List ℕ
    read_steps outputs_lent old = on_fine (read_rule (length old / 2) outputs_lent) (over (flat steps_of) old) old

    unfoldable pub read_outputs : ℕ → List ℕ → List ℕ
    read_outputs pairs_lent old = on_fine (read_rule pairs_lent (length old)) (over outputs_of old) old

  -- no file of this layout has more bytes than one of the most steps and payslips, in the widest fields
  abbrev pub most_bytes : ℕ
  most_bytes = bytes_for (header_size + (2 * L.limit + most_payslips) * widest)

-- Spec 5.4: the bytes of the longest file
abbrev pub longest_file : ℕ
longest_file = most_bytes edition1
