-- A sheet's bytes are judged field by field: they are accepted exactly if each field says an amount, and the first that says none decides what is refused.
use mathlib.Core.Path.{◌≡◌, sym, ap, ◌∙◌}
use mathlib.Core.List.{List, []}
use Prim.Native.Nat.{ℕ, ◌+◌, ◌*◌, ◌≤◌, ◌<◌}
use native.Mathlib.Nat.{add_comm}
use native.Mathlib.Omega.{arith}
use lib.ListN.{length, get_or}
use Rattle.chain.specs.Verdict.{Verdict, fine, refused, in_order}
use Rattle.chain.proofs.Rules.{then_fine, pass, stop, refuse_no, lt_no, ne_no}
use Rattle.chain.proofs.InOrder.{each_fine, fine_each, first_refused}
use Rattle.packed.specs.Field.{field_bytes, field_rule, field_from, fields_in}
use Rattle.packed.specs.Packed.{readable_rule, unpack_rule}
use Rattle.packed.proofs.Fields.{length_fields, field_is}
use Rattle.packed.proofs.Given.{readable}
use Rattle.packed_laws.specs.Kinds.{Sayable}
use Rattle.packed_laws.specs.Accepted.{Saying, Decided}
use Rattle.packed_laws.proofs.Found.{kinds}

module _ (p q : ℕ) (bytes : List ℕ) where
  abbrev fields : List (List ℕ)
  fields = fields_in (p * q) bytes

  abbrev field : ℕ → List ℕ
  field k = field_from bytes (field_bytes * k)

  one_of : (k : ℕ) → k < p * q → k < length fields
  one_of k h = omega (arith, length_fields (p * q) bytes)

  judged : (k : ℕ) → k < p * q → field_rule (1 + k) (get_or fields k []) ≡ field_rule (1 + k) (field k)
  judged k h = ap (field_rule (1 + k)) (field_is (p * q) bytes k h)

  -- of so many bytes there is found what is found of their fields
  found : (n : ℕ) (v : Verdict) → Saying p q bytes n → in_order field_rule 1 fields ≡ v → v ≡ readable_rule p q bytes
  unfolding readable_rule
  found n v s e = pass _ _ v (sym s.sizes) (pass _ _ v (refuse_no _ 2 0 (ne_no _ _ s.long)) (sym e))

  says : (k : ℕ) → k < p * q → Sayable (field k) → field_rule (1 + k) (get_or fields k []) ≡ fine
  says k h s = judged k h ∙ (kinds (field k)).sayable_fine s (1 + k)

  module _ (lent : ℕ) where
    pub accepted : unpack_rule p q bytes lent ≡ fine → Saying p q bytes (p * q)
    unfolding unpack_rule
    accepted ok =
        let r = readable p q bytes (then_fine _ _ ok).0 in
        record {
          sizes = r.sizes;
          long = r.long;
          fields = λ k h. (kinds (field k)).fine_sayable (1 + k) (sym (judged k h) ∙ each_fine field_rule [] 1 fields r.fields_fine k (one_of k h));
        }

    pub accepted_fields : unpack_rule p q bytes lent ≡ fine → (k : ℕ) → k < p * q → Sayable (field k)
    accepted_fields ok = (accepted ok).fields

    pub sayable_accepted : Saying p q bytes (p * q) → p * q ≤ lent → unpack_rule p q bytes lent ≡ fine
    unfolding unpack_rule
    sayable_accepted s room =
        let inside : (k : ℕ) → k < length fields → k < p * q = λ k h. omega (arith, length_fields (p * q) bytes) in
        let each = fine_each field_rule [] 1 fields (λ k h. says k (inside k h) (s.fields k (inside k h))) in
        sym (pass _ _ fine (found (p * q) fine s each) (refuse_no _ 5 0 (lt_no lent (p * q) room)))

    pub others_refused : (k : ℕ) → k < p * q → Saying p q bytes k → Decided p q bytes lent k
    unfolding unpack_rule
    others_refused k h s =
        record {
          negative_told = λ kind. decides 19 ((kinds (field k)).negative_refused kind (1 + k));
          spoilt_told = λ kind. decides 18 ((kinds (field k)).spoilt_refused kind (1 + k));
        }
      where
        decides : (n : ℕ) → field_rule (1 + k) (field k) ≡ refused n (1 + k) → unpack_rule p q bytes lent ≡ refused n (k + 1)
        decides n e =
            let first = first_refused field_rule [] 1 fields k n (1 + k) (one_of k h) (λ j g. says j (omega arith) (s.fields j g)) (judged k h ∙ e) in
            sym (stop _ _ n (1 + k) (found k (refused n (1 + k)) s first)) ∙ ap (refused n) (add_comm 1 k)
