-- Bytes of which the first fields say amounts, and what is found where the next one says none.
use Rattle.std.specs.Prelude.{◌≡◌, List, ℕ, ◌+◌, ◌*◌, ◌<◌, length}
use Rattle.chain.specs.Verdict.{fine, refused}
use Rattle.chain.specs.Chain.{sizes_rule}
use Rattle.packed.specs.Field.{field_bytes, field_from}
use Rattle.packed.specs.Packed.{unpack_rule}
use Rattle.packed_laws.specs.Kinds.{Sayable, Negative, Spoilt}

-- as many bytes as p columns and q payslips want, of which the first n fields say an amount each
pub record Saying (p q : ℕ) (bytes : List ℕ) (n : ℕ) : Type 0 where
  pub sizes : sizes_rule p q ≡ fine
  pub long : length bytes ≡ field_bytes * (p * q)
  pub fields : (k : ℕ) → k < n → Sayable (field_from bytes (field_bytes * k))

-- field k decides, whatever stands behind it and whatever is lent
pub record Decided (p q : ℕ) (bytes : List ℕ) (lent k : ℕ) : Type 0 where
  pub negative_told : Negative (field_from bytes (field_bytes * k)) → unpack_rule p q bytes lent ≡ refused 19 (k + 1)
  pub spoilt_told : Spoilt (field_from bytes (field_bytes * k)) → unpack_rule p q bytes lent ≡ refused 18 (k + 1)
