-- Decimal digits: the last n digits of a number say it, as far as n digits go, and decimal digits are the last ones of the number that they say.
use mathlib.Core.Path.{◌≡◌, refl, ap₂, ◌∙◌}
use mathlib.Core.List.{List, [], ◌∷◌}
use Prim.Native.Nat.{ℕ, zero, suc, ◌+◌, ◌*◌, ◌/◌, ◌%◌, ◌^◌, ◌≤◌, ◌<◌}
use native.Mathlib.Nat.{pow-suc, mul_comm, one-le-pow}
use native.Mathlib.Omega.{arith}
use lib.Arith.{mod-mul, digits_lt, digits_div}
use lib.ListN.{length, get_or, length-take}
use lib.Seq.{get_or-take}
use Rattle.packed.specs.Field.{field_digits, halves, digits_of, said_after, last_digits}
use Rattle.packed_laws.specs.Kinds.{Decimal}

-- all are decimal
abbrev pub Low : List ℕ → Type 0
Low ds = (k : ℕ) → k < length ds → get_or ds k 0 ≤ 9

-- as those of a field are, if its first nine half-bytes are
pub field_low : (field : List ℕ) → Decimal field → Low (digits_of field)
unfolding digits_of
field_low field low k h =
    let inside : k < field_digits = omega (arith, length-take field_digits (halves field)) in
    rw (get_or-take field_digits (halves field) k 0 inside) (low k inside)

ten_times : (n : ℕ) → 10 ^ suc n ≡ 10 * 10 ^ n
ten_times n = pow-suc 10 n ∙ mul_comm (10 ^ n) 10

pub last_low : (n x k : ℕ) → get_or (last_digits n x) k 0 ≤ 9
last_low zero x k = omega arith
last_low (suc n) x zero = omega arith
last_low (suc n) x (suc k) = last_low n x k

pub said_last : (n x y : ℕ) → said_after y (last_digits n x) ≡ y * 10 ^ n + x % 10 ^ n
said_last zero x y = omega arith
said_last (suc n) x y =
    said_last n x (y * 10 + x / 10 ^ n % 10)
    ∙ rw (ten_times n) (omega (arith, mod-mul x {m = 10} {c = 10 ^ n} (omega arith) (one-le-pow n 10 (omega arith))))

-- what digits say after others that say y: these have their place above
said_after_lem : (y : ℕ) (ds : List ℕ) → said_after y ds ≡ y * 10 ^ length ds + said_after 0 ds
said_after_lem y [] = omega arith
said_after_lem y (d ∷ r) =
    said_after_lem (y * 10 + d) r ∙ rw (ten_times (length r)) (omega (arith, said_after_lem (0 + d) r))

pub said_low : (ds : List ℕ) → Low ds → said_after 0 ds < 10 ^ length ds
said_low [] low = omega arith
said_low (d ∷ r) low =
    let rest : said_after 0 r < 10 ^ length r = said_low r (λ k h. low (suc k) (omega arith)) in
    let first : d < 10 = omega (arith, low 0 (omega arith)) in
    rw (ten_times (length r)) (omega (arith, said_after_lem (0 + d) r, digits_lt first rest))

pub last_said : (y : ℕ) (ds : List ℕ) → Low ds → last_digits (length ds) (said_after y ds) ≡ ds
last_said y [] low = refl
last_said y (d ∷ r) low = ap₂ ◌∷◌ top (last_said (y * 10 + d) r later)
  where
    later : Low r
    later k h = low (suc k) (omega arith)

    top : said_after (y * 10 + d) r / 10 ^ length r % 10 ≡ d
    top = rw (said_after_lem (y * 10 + d) r, digits_div (y * 10 + d) (said_low r later)) (omega (arith, low 0 (omega arith)))
