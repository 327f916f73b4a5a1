-- The kinds of a field (Spec 1.4), told from its half-bytes, and what is found of each.
use Rattle.std.specs.Prelude.{◌≡◌, ◌≢◌, ◌⊎◌, List, ℕ, ◌≤◌, ◌<◌, get_or}
use Rattle.chain.specs.Verdict.{fine, refused}
use Rattle.packed.specs.Field.{field_digits, plus, minus, unsigned, halves, sign_of, field_rule}

-- all nine digits are decimal
abbrev pub Decimal : List ℕ → Type 0
Decimal field = (k : ℕ) → k < field_digits → get_or (halves field) k 0 ≤ 9

-- the field says an amount
pub record Sayable (field : List ℕ) : Type 0 where
  pub digits_low : Decimal field
  pub sign_is : (sign_of field ≡ plus) ⊎ (sign_of field ≡ unsigned)

-- it says a negative amount, also where that is 0
pub record Negative (field : List ℕ) : Type 0 where
  pub digits_low : Decimal field
  pub sign_is : sign_of field ≡ minus

-- it says none: a digit is above 9, or where the sign stands there is no sign
pub data Spoilt (field : List ℕ) : Type 0 where
  high_digit : (k : ℕ) → k < field_digits → 9 < get_or (halves field) k 0 → Spoilt field
  no_sign : sign_of field ≢ plus → sign_of field ≢ minus → sign_of field ≢ unsigned → Spoilt field

-- one of the three
pub data Kind (field : List ℕ) : Type 0 where
  sayable : Sayable field → Kind field
  negative : Negative field → Kind field
  spoilt : Spoilt field → Kind field

-- what is found of a field, wherever it stands
pub record Kinds (field : List ℕ) : Type 0 where
  -- it is of one of the kinds, and of no second one, since what is found of each differs
  pub some_kind : Kind field
  -- one that says an amount is fine, and no other is
  pub sayable_fine : Sayable field → (i : ℕ) → field_rule i field ≡ fine
  pub fine_sayable : (i : ℕ) → field_rule i field ≡ fine → Sayable field
  -- a negative amount is refused under its own number
  pub negative_refused : Negative field → (i : ℕ) → field_rule i field ≡ refused 19 i
  -- one that says none is refused under another, also where its sign is minus
  pub spoilt_refused : Spoilt field → (i : ℕ) → field_rule i field ≡ refused 18 i
