-- Straus's table: its inputs are the bases, and entry t makes the digits of t.
use mathlib.Core.Path.{◌≡◌, ◌∙◌}
use mathlib.Core.List.{[]}
use Prim.Native.Nat.{ℕ, ◌+◌, ◌-◌, ◌*◌, ◌^◌, ◌≤◌, ◌<◌}
use native.Mathlib.Nat.{mul_comm, le_refl}
use native.Mathlib.Omega.{arith}
use lib.ListN.{length, get_or}
use lib.Pow.{pow-lt}
use Rattle.chain.proofs.Exponents.{Makes, makes_like}
use Rattle.digits.specs.Digits.{digit}
use Rattle.digits.specs.Range.{sign}
use Rattle.digits.proofs.Range.{sum_same}
use Rattle.digits.proofs.Listed.{length-list, get_d_list}
use Rattle.digits.proofs.Vector.{delta, digit_low, sum_delta}
use Rattle.tables.specs.Table.{entry}
use Rattle.products.proofs.Sound.{makes_base, Sound, sound_none}
use Rattle.tables.proofs.Table.{table_count_lem, entry_sign}
use Rattle.tables.proofs.Entries.{combined, Inputs, Entries, table_makes}
use Rattle.straus.specs.Straus.{bases, straus_table}

pub length-bases : (p : ℕ) → length (bases p) ≡ p
length-bases p = length-list p (λ c. c + 1)

get_d_bases : (p j : ℕ) → j < p → get_or (bases p) j 0 ≡ j + 1
get_d_bases p = get_d_list p (λ c. c + 1) 0

bases_some : (p j : ℕ) → j < length (bases p) → 0 < get_or (bases p) j 0
bases_some p j h = rw (get_d_bases p j (omega (arith, length-bases p))) (omega arith)

inputs : (p : ℕ) → Inputs p [] (bases p) delta
inputs p =
    record {
      nonempty = bases_some p;
      makes = λ j h. let low : j < p = omega (arith, length-bases p) in rw (get_d_bases p j low) (makes_base p [] j low);
    }

-- the digits of t are what the bases' units give
digits_combined : (p k t c : ℕ) → c < p → combined k (length (bases p)) delta t c ≡ digit k t c
digits_combined p k t c h = rw (length-bases p) (sum_same p _ _ (λ j g. mul_comm (digit k t j) (delta j c)) ∙ sum_delta p (digit k t) c h)

module _ (p k : ℕ) (some : 0 < k) where
  size : 2 ^ (p * k) ≡ 2 ^ (k * length (bases p))
  size = rw (length-bases p, mul_comm p k)

  pub straus_table_count : length (straus_table p k) ≡ 2 ^ (p * k) - p - 1
  straus_table_count = rw (mul_comm p k) (table_count_lem k some (bases p) (p + 1) p)

  pub straus_entry_sign : (t : ℕ) → t < 2 ^ (k * p) → sign (entry k (bases p) (p + 1) t) ≡ sign t
  straus_entry_sign t h = entry_sign k some (bases p) (p + 1) (omega arith) (bases_some p) t (rw (length-bases p) h)

  module _ (limit : ℕ) (room : 2 ^ k ≤ limit + 1) where
    entries : Entries p limit k [] (bases p) (p + 1) delta (2 ^ (p * k))
    entries =
        let base : 1 < 2 ^ k = pow-lt some in
        table_makes p limit k some [] (bases p) (p + 1) delta (omega arith) (inputs p)
        (λ t c h g. rw (digits_combined p k t c g) (omega (arith, digit_low k t c))) (sound_none p limit (omega arith)) (2 ^ (p * k)) (rw size (le_refl _))

    pub straus_table_sound : Sound p limit (straus_table p k)
    straus_table_sound = entries.sound

    pub straus_table_makes : (t : ℕ) → t < 2 ^ (k * p) → Makes p (straus_table p k) (entry k (bases p) (p + 1) t) (digit k t)
    straus_table_makes t h = makes_like p _ _ _ _ (λ c g. digits_combined p k t c g) (entries.makes t (rw (mul_comm p k) h))
