-- Bytes are read exactly if each of the reader's rules finds nothing: the rules in a row, taken apart into facts and put together again.
use mathlib.Core.Path.{◌≡◌, sym}
use mathlib.Core.List.{List}
use Prim.Native.Nat.{ℕ, ◌≤◌}
use native.Mathlib.Omega.{arith}
use lib.ListN.{length}
use Rattle.chain.specs.Verdict.{fine}
use Rattle.chain.specs.Chain.{most_columns, most_payslips, chain_rule}
use Rattle.chain.proofs.Rules.{then_fine, refuse_if_fine, neither, not_lt, not_ne, pass, refuse_no, lt_no, ne_no, or_none}
use Rattle.chain.proofs.Sizes.{length-fits, fits-length}
use Rattle.bits.specs.Bits.{bytes_for}
use Rattle.bits.proofs.Fields.{field_lt}
use Rattle.layout.specs.declared.Layout.{Layout}
use Rattle.layout.specs.File.{edition_of, columns_of, payslips_of, length_of, steps_of, outputs_of, bits_of, filling_of, read_rule}
use Rattle.layout.specs.Inner.{Sized}

pub record Readable (L : Layout) (bytes : List ℕ) (pairs_lent outputs_lent : ℕ) : Type 0 where
  pub some : 4 ≤ length bytes
  pub same_edition : edition_of bytes ≡ L.edition
  pub few : length_of L bytes ≤ L.limit
  pub long : length bytes ≡ bytes_for (bits_of L bytes)
  pub pairs_room : length_of L bytes ≤ pairs_lent
  pub outputs_room : payslips_of bytes ≤ outputs_lent
  pub filling : filling_of L bytes ≡ 0
  pub chain : chain_rule (columns_of bytes) (steps_of L bytes) (outputs_of L bytes) ≡ fine

module _ (L : Layout) (bytes : List ℕ) (x y : ℕ) where
  pub readable : read_rule L bytes x y ≡ fine → Readable L bytes x y
  unfolding read_rule
  readable ok =
      let a = then_fine _ _ ok in
      let b = then_fine _ _ a.1 in
      let c = then_fine _ _ b.1 in
      let d = then_fine _ _ c.1 in
      let e = then_fine _ _ d.1 in
      let f = then_fine _ _ e.1 in
      let rooms = neither _ _ (refuse_if_fine _ 5 0 e.0) in
      record {
        some = not_lt _ _ (refuse_if_fine _ 6 0 a.0);
        same_edition = not_ne _ _ (refuse_if_fine _ 7 0 b.0);
        few = length-fits L.limit _ c.0;
        long = not_ne _ _ (refuse_if_fine _ 6 0 d.0);
        pairs_room = not_lt _ _ rooms.0;
        outputs_room = not_lt _ _ rooms.1;
        filling = not_ne _ _ (refuse_if_fine _ 8 0 f.0);
        chain = f.1;
      }

  pub read_fine : Readable L bytes x y → read_rule L bytes x y ≡ fine
  unfolding read_rule
  read_fine r =
      sym
      (pass _ _ fine (refuse_no _ 6 0 (lt_no _ _ r.some))
      (pass _ _ fine (refuse_no _ 7 0 (ne_no _ _ r.same_edition))
      (pass _ _ fine (sym (fits-length L.limit _ r.few))
      (pass _ _ fine (refuse_no _ 6 0 (ne_no _ _ r.long))
      (pass _ _ fine (refuse_no _ 5 0 (or_none _ _ (lt_no _ _ r.pairs_room) (lt_no _ _ r.outputs_room)))
      (pass _ _ fine (refuse_no _ 8 0 (ne_no _ _ r.filling)) (sym r.chain)))))))

-- sizes that any header has
module _ (bytes : List ℕ) where
  pub columns_low : columns_of bytes ≤ most_columns
  columns_low = omega (arith, field_lt bytes 4 4)

  pub payslips_low : payslips_of bytes ≤ most_payslips
  payslips_low = omega (arith, field_lt bytes 8 6)

pub header_sized : (L : Layout) (bytes : List ℕ) → length_of L bytes ≤ L.limit → Sized L (columns_of bytes) (payslips_of bytes) (length_of L bytes)
header_sized L bytes few = record { p_some = omega arith; p_low = columns_low bytes; q_low = payslips_low bytes; n_low = few }
