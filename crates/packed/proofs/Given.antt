-- What bytes that can be read, and amounts that can be written, keep to: the rules taken apart.
use mathlib.Core.Path.{◌≡◌}
use mathlib.Core.List.{List}
use Prim.Native.Nat.{ℕ, ◌*◌, ◌≤◌, ◌<◌}
use lib.ListN.{length, get_or}
use Rattle.chain.specs.Verdict.{fine, in_order}
use Rattle.chain.specs.Chain.{most_columns, most_payslips, sizes_rule}
use Rattle.chain.proofs.Rules.{then_fine, refuse_if_fine, not_ne}
use Rattle.chain.proofs.Sizes.{sizes_fit}
use Rattle.chain.proofs.Limits.{numbers_low}
use Rattle.sheet.specs.Sheet.{sheet_rule}
use Rattle.sheet.proofs.Amounts.{product_low, amounts_fit}
use Rattle.packed.specs.Field.{field_bytes, most_packed, field_rule, fields_in}
use Rattle.packed.specs.Packed.{readable_rule, writable_rule}

pub record Readable (p q : ℕ) (bytes : List ℕ) : Type 0 where
  pub sizes : sizes_rule p q ≡ fine
  pub few : p * q ≤ most_columns * most_payslips
  pub long : length bytes ≡ field_bytes * (p * q)
  pub fields_fine : in_order field_rule 1 (fields_in (p * q) bytes) ≡ fine

pub readable : (p q : ℕ) (bytes : List ℕ) → readable_rule p q bytes ≡ fine → Readable p q bytes
unfolding readable_rule
readable p q bytes ok =
    let first = then_fine _ _ ok in
    let rest = then_fine _ _ first.1 in
    let low = sizes_fit p q first.0 in
    record {
      sizes = first.0;
      few = product_low p q low.p_low low.q_low;
      long = not_ne _ _ (refuse_if_fine _ 2 0 rest.0);
      fields_fine = rest.1;
    }

pub record Writable (p q : ℕ) (amounts : List ℕ) : Type 0 where
  pub sizes : sizes_rule p q ≡ fine
  pub many : length amounts ≡ p * q
  pub low : (i : ℕ) → i < length amounts → get_or amounts i 0 ≤ most_packed

pub writable : (p q : ℕ) (amounts : List ℕ) → writable_rule p q amounts ≡ fine → Writable p q amounts
unfolding writable_rule sheet_rule
writable p q amounts ok =
    let both = then_fine _ _ ok in
    let sheet = then_fine _ _ both.0 in
    record { sizes = sheet.0; many = amounts_fit p q amounts sheet.1; low = numbers_low 20 most_packed 1 amounts both.1 }
