-- A rule that is fine rules out each of its refusals: so a sheet, a method and a parameter that pass keep to their ranges, as the method asks.
use mathlib.Core.Path.{◌≡◌}
use mathlib.Core.List.{List}
use Prim.Native.Nat.{ℕ, ◌*◌}
use lib.ListN.{length}
use Rattle.chain.specs.Verdict.{fine}
use Rattle.chain.proofs.Rules.{then_fine}
use Rattle.chain.proofs.Sizes.{Sizes, sizes_fit}
use Rattle.sheet.specs.Sheet.{sheet_rule}
use Rattle.sheet.proofs.Amounts.{amounts_fit}
use Rattle.methods.specs.Inner.{SheetSized, AskedByLargest}
use Rattle.straus.specs.Inner.{StrausAsked}
use Rattle.yao.specs.Yao.{yao_most}
use Rattle.parameters.proofs.Fits.{Fits, method_fits}
use Rattle.quote.specs.ByMethod.{count_rule}
use Rattle.quote.specs.Inner.{MeasuredFor}

-- the sheet and the parameter keep to their ranges
pub record InRange (p q : ℕ) (amounts : List ℕ) (method k : ℕ) : Type 0 where
  pub sizes : Sizes p q
  pub amounts_are : length amounts ≡ p * q
  pub fits : Fits p method k

pub in_range : (p q : ℕ) (amounts : List ℕ) (method k : ℕ) → count_rule p q amounts method k ≡ fine → InRange p q amounts method k
unfolding count_rule sheet_rule
in_range p q amounts method k e =
    let a = then_fine _ _ e in
    let b = then_fine _ _ a.0 in
    record { sizes = sizes_fit p q b.0; amounts_are = amounts_fit p q amounts b.1; fits = method_fits p method k a.1 }

-- what the functions of the methods ask of their callers
module _ {p q : ℕ} {amounts : List ℕ} {method k : ℕ} (r : InRange p q amounts method k) where
  sized : SheetSized p q amounts
  sized = record { p_some = r.sizes.p_some; p_low = r.sizes.p_low; q_low = r.sizes.q_low; amounts_are = r.amounts_are }

  pub first_asks : method ≡ 1 → StrausAsked p q amounts k
  first_asks e =
      let f = r.fits.one e in
      record { ranges = record { sheet = sized; k_some = f.0; k_low = f.1 }; bits_low = f.2 }

  pub other_asks : {cells : List ℕ} → MeasuredFor method p q amounts cells → (method ≡ 1 → ⊥) → AskedByLargest yao_most p q amounts k cells
  other_asks m e =
      let f = r.fits.more e in
      record { ranges = record { sheet = sized; k_some = f.2; k_low = f.3 }; largest = m.columns e }
