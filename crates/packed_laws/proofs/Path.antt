-- Amounts that were read from fields make a sheet with no amount above the largest, which is all that the path asks.
use mathlib.Core.Path.{◌≡◌, refl}
use mathlib.Core.List.{List}
use Prim.Native.Nat.{ℕ, ◌*◌, ◌≤◌}
use native.Mathlib.Omega.{arith}
use lib.ListN.{length, get_or}
use Rattle.chain.specs.Verdict.{fine}
use Rattle.chain.specs.Chain.{most_amount}
use Rattle.sheet.proofs.Amounts.{amount_there}
use Rattle.packed.specs.Packed.{unpacked, unpack_rule}
use Rattle.packed.proofs.Fields.{amount_is}
use Rattle.path.proofs.Demand3.{demand_3}
use Rattle.packed_laws.specs.Accepted.{Saying}
use Rattle.packed_laws.specs.Back.{amounts_read}
use Rattle.packed_laws.specs.Path.{PackedPath}
use Rattle.packed_laws.proofs.Accepted.{accepted}
use Rattle.packed_laws.proofs.Read.{amounts_read_lem, read_sheet, read_low}

read_path : (p q : ℕ) (bytes : List ℕ) → Saying p q bytes (p * q) → PackedPath p q bytes (unpacked p q bytes)
read_path p q bytes s =
    record {
      sheet_fine = read_sheet p q bytes s;
      amounts_said = λ i c h g. amount_is (p * q) bytes _ (amount_there p q i c (p * q) h g refl);
      demanded = λ method k m bases l. demand_3 p q (unpacked p q bytes) method k low l m bases;
    }
  where
    low : (j : ℕ) → get_or (unpacked p q bytes) j 0 ≤ most_amount
    low j = omega (arith, read_low p q bytes s j)

pub packed_path : (p q : ℕ) (bytes old : List ℕ) → unpack_rule p q bytes (length old) ≡ fine → PackedPath p q bytes (amounts_read p q bytes old)
packed_path p q bytes old ok = rw (amounts_read_lem p q bytes old ok) (read_path p q bytes (accepted p q bytes (length old) ok))
