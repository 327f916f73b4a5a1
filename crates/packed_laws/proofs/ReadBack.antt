-- What was written is the fields of the amounts, one after the other, and each says its amount: so reading them gives the amounts.
use mathlib.Core.Path.{◌≡◌, sym, ap, ◌∙◌}
use mathlib.Core.List.{List}
use Prim.Native.Nat.{ℕ, ◌*◌, ◌≤◌, ◌<◌}
use native.Mathlib.Omega.{arith}
use lib.ListN.{length, get_or}
use lib.Seq.{ext_get_or}
use Rattle.chain.specs.Verdict.{fine}
use Rattle.chain.specs.Written.{over}
use Rattle.chain.proofs.Rules.{then_fine, answer_done, renewed}
use Rattle.chain.proofs.OneSlice.{taken_out}
use Rattle.packed.specs.Field.{field_bytes, amount_of}
use Rattle.packed.specs.Packed.{unpacked, packed, unpack_rule, unpack_answer, unpack_amounts, pack_rule, pack_bytes}
use Rattle.packed.proofs.Fields.{length_amounts, amount_is, length-packed}
use Rattle.packed.proofs.Given.{Writable, writable}
use Rattle.packed_laws.specs.Accepted.{Saying}
use Rattle.packed_laws.specs.Back.{bytes_written, ReadBack}
use Rattle.packed_laws.proofs.Accepted.{sayable_accepted}
use Rattle.packed_laws.proofs.Rows.{packed_field}
use Rattle.packed_laws.proofs.Written.{written_sayable, amount_written}

module _ (p q : ℕ) (amounts old : List ℕ) (ok : pack_rule p q amounts (length old) ≡ fine) where
  given : Writable p q amounts
  unfolding pack_rule
  given = writable p q amounts (then_fine _ _ ok).0

  all_bytes : length (packed amounts) ≡ field_bytes * (p * q)
  all_bytes = length-packed amounts ∙ ap (λ (n : ℕ). field_bytes * n) given.many

  pub bytes_written_lem : bytes_written p q amounts old ≡ packed amounts
  unfolding pack_bytes
  bytes_written_lem = taken_out _ (field_bytes * (p * q)) (packed amounts) old ok all_bytes

  saying : Saying p q (packed amounts) (p * q)
  saying =
      record {
        sizes = given.sizes;
        long = all_bytes;
        fields = λ k h. rw (packed_field amounts k (omega (arith, given.many))) (written_sayable (get_or amounts k 0));
      }

  unpacked_packed : unpacked p q (packed amounts) ≡ amounts
  unpacked_packed = ext_get_or 0 _ _ (length_amounts (p * q) (packed amounts) ∙ sym given.many) each
    where
      each : (k : ℕ) → k < length (unpacked p q (packed amounts)) → get_or (unpacked p q (packed amounts)) k 0 ≡ get_or amounts k 0
      each k h =
          let inside : k < p * q = omega (arith, length_amounts (p * q) (packed amounts)) in
          let there : k < length amounts = omega (arith, given.many) in
          amount_is (p * q) (packed amounts) k inside ∙ ap amount_of (packed_field amounts k there) ∙ amount_written (get_or amounts k 0) (given.low k there)

  pub unpack_packed : (new : List ℕ) → p * q ≤ length new → ReadBack p q amounts (bytes_written p q amounts old) new
  unfolding unpack_answer unpack_amounts
  unpack_packed new room =
      rw bytes_written_lem
      (record {
        all_read = sym (answer_done _ _ reads);
        amounts_same = sym (renewed _ _ new (over amounts new) reads (ap (λ (l : List ℕ). over l new) (sym unpacked_packed)));
      })
    where
      reads : fine ≡ unpack_rule p q (packed amounts) (length new)
      reads = sym (sayable_accepted p q (packed amounts) (length new) saying room)
