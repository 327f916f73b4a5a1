-- The method of an accepted number and parameter is right, because each of the three is.
use mathlib.Core.Path.{◌≡◌}
use mathlib.Core.List.{List}
use Prim.Native.Nat.{ℕ, ◌≤◌}
use native.Mathlib.Decide.{ℕ_discrete}
use lib.ListN.{get_or}
use Rattle.chain.specs.Chain.{most_amount}
use Rattle.methods.proofs.Right.{Right}
use Rattle.straus.proofs.Straus.{straus_right}
use Rattle.yao.proofs.Yao.{yao_right}
use Rattle.partition.proofs.Right.{partition_right}
use Rattle.quote.specs.ByMethod.{method_of}
use Rattle.parameters.proofs.Fits.{Fits}
use Rattle.quote.proofs.ByMethod.{is_straus, is_yao, is_partition}

pub compiled_right : (p q : ℕ) (amounts : List ℕ) (method k : ℕ) → ((j : ℕ) → get_or amounts j 0 ≤ most_amount) → Fits p method k
    → Right p q amounts (method_of p q amounts method k)
compiled_right p q amounts method k low fits = by_number (ℕ_discrete method 1) (ℕ_discrete method 2)
  where
    by_number : Dec (method ≡ 1) → Dec (method ≡ 2) → Right p q amounts (method_of p q amounts method k)
    by_number (yes one) two =
        let f = fits.one one in
        rw (is_straus p q amounts method k one) (straus_right p q amounts k f.0 f.1 low)
    by_number (no one) (yes two) = rw (is_yao p q amounts method k two) (yao_right p q amounts k (fits.more one).2 low)
    by_number (no one) (no two) =
        rw (is_partition p q amounts method k one two) (partition_right p q amounts k (fits.more one).2 low)
