-- Fields are judged one by one, as any list is; field i begins at byte 5 i.
use mathlib.Core.Path.{◌≡◌, sym, ap, ◌∙◌}
use mathlib.Core.List.{List, []}
use Prim.Native.Nat.{ℕ, ◌+◌, ◌*◌, ◌≤◌, ◌<◌}
use native.Mathlib.Omega.{arith}
use lib.ListN.{get_or}
use Rattle.chain.specs.Verdict.{Verdict, fine, refused, in_order}
use Rattle.chain.proofs.InOrder.{left, judge_start_lem, judge_on, judge_bad, judge_end_lem}
use Rattle.packed.specs.Field.{field_bytes, field_rule, field_from, fields_in}
use Rattle.packed.proofs.Fields.{length_fields, field_is}

-- the verdict on the fields after the first i
unfoldable pub fields_left : List ℕ → ℕ → ℕ → Verdict
fields_left bytes m = left field_rule (fields_in m bytes)

module _ (bytes : List ℕ) (m : ℕ) where
  pub fields_start : in_order field_rule 1 (fields_in m bytes) ≡ fields_left bytes m 0
  unfolding fields_left
  fields_start = judge_start_lem field_rule (fields_in m bytes)

  -- `w` is the verdict on all fields
  module _ (i : ℕ) (w : Verdict) where
    pub fields_end : m ≤ i → w ≡ fields_left bytes m i → fine ≡ w
    unfolding fields_left
    fields_end h e = judge_end_lem field_rule (fields_in m bytes) i w (omega (arith, length_fields m bytes)) e

    of_list : i < m → (v : Verdict) → v ≡ field_rule (i + 1) (field_from bytes (field_bytes * i)) → v ≡ field_rule (i + 1) (get_or (fields_in m bytes) i [])
    of_list h v e = e ∙ ap (field_rule (i + 1)) (sym (field_is m bytes i h))

    pub fields_on : i < m → fine ≡ field_rule (i + 1) (field_from bytes (field_bytes * i)) → w ≡ fields_left bytes m i → w ≡ fields_left bytes m (i + 1)
    unfolding fields_left
    fields_on h ok e = judge_on field_rule [] (fields_in m bytes) i w (omega (arith, length_fields m bytes)) (of_list h fine ok) e

    pub fields_bad : (n s : ℕ) → i < m → refused n s ≡ field_rule (i + 1) (field_from bytes (field_bytes * i)) → w ≡ fields_left bytes m i → refused n s ≡ w
    unfolding fields_left
    fields_bad n s h bad e = judge_bad field_rule [] (fields_in m bytes) i w n s (omega (arith, length_fields m bytes)) (of_list h (refused n s) bad) e

pub ruleset reading_fields = (fields_start, fields_end, fields_on, fields_bad)
