-- Amounts that were read from accepted bytes: they make a sheet, and none is above what nine digits say.
use mathlib.Core.Path.{◌≡◌, sym}
use mathlib.Core.List.{List}
use Prim.Native.Nat.{ℕ, ◌+◌, ◌*◌, ◌≤◌, ◌<◌}
use native.Mathlib.Decide.{dec_lt}
use native.Mathlib.Omega.{arith}
use lib.ListN.{length, get_or, get_or-eq_default}
use Rattle.chain.specs.Verdict.{fine}
use Rattle.chain.proofs.Rules.{pass}
use Rattle.chain.proofs.OneSlice.{taken_out}
use Rattle.sheet.specs.Sheet.{sheet_rule}
use Rattle.sheet.proofs.Amounts.{fit_amounts}
use Rattle.packed.specs.Field.{field_bytes, most_packed}
use Rattle.packed.specs.Packed.{unpacked, unpack_rule, unpack_amounts}
use Rattle.packed.proofs.Fields.{length_amounts, amount_is}
use Rattle.packed_laws.specs.Accepted.{Saying}
use Rattle.packed_laws.specs.Back.{amounts_read}
use Rattle.packed_laws.proofs.Rewritten.{amount_low}

module _ (p q : ℕ) (bytes : List ℕ) where
  pub amounts_read_lem : (old : List ℕ) → unpack_rule p q bytes (length old) ≡ fine → amounts_read p q bytes old ≡ unpacked p q bytes
  unfolding unpack_amounts
  amounts_read_lem old ok = taken_out _ (p * q) (unpacked p q bytes) old ok (length_amounts (p * q) bytes)

  module _ (s : Saying p q bytes (p * q)) where
    pub field_there : (k : ℕ) → k < p * q → field_bytes * k + field_bytes ≤ length bytes
    field_there k h = omega (arith, s.long)

    pub read_sheet : sheet_rule p q (unpacked p q bytes) ≡ fine
    unfolding sheet_rule
    read_sheet = sym (pass _ _ fine (sym s.sizes) (sym (fit_amounts p q _ (length_amounts (p * q) bytes))))

    pub read_low : (k : ℕ) → get_or (unpacked p q bytes) k 0 ≤ most_packed
    read_low k = by_place (dec_lt k (p * q))
      where
        by_place : Dec (k < p * q) → get_or (unpacked p q bytes) k 0 ≤ most_packed
        by_place (yes lt) = rw (amount_is (p * q) bytes k lt) (amount_low bytes (field_bytes * k) (field_there k lt) (s.fields k lt))
        by_place (no ge) =
            let out : length (unpacked p q bytes) ≤ k = omega (arith, length_amounts (p * q) bytes) in
            rw (get_or-eq_default (unpacked p q bytes) 0 out) (omega arith)
