-- A method's number chooses once: chain, count and ceiling are those of the method it names.
use mathlib.Core.Path.{◌≡◌, ap}
use mathlib.Core.List.{List}
use Prim.Native.Nat.{ℕ}
use native.Mathlib.Omega.{arith}
use Rattle.chain.proofs.Rules.{eq_yes, eq_no}
use Rattle.methods.specs.Method.{Method}
use Rattle.methods.specs.Inner.{QuoteOf}
use Rattle.answers.specs.declared.Quote.{Quote}
use Rattle.straus.specs.Straus.{straus_method}
use Rattle.yao.specs.Yao.{yao_method}
use Rattle.partition.specs.Method.{partition_method}
use Rattle.quote.specs.ByMethod.{method_of}

module _ (p q : ℕ) (amounts : List ℕ) (method k : ℕ) where
  pub is_straus : method ≡ 1 → method_of p q amounts method k ≡ straus_method p q amounts k
  unfolding method_of
  is_straus e = rw (eq_yes method 1 e)

  pub is_yao : method ≡ 2 → method_of p q amounts method k ≡ yao_method p q amounts k
  unfolding method_of
  is_yao e = rw (eq_no method 1 (omega arith), eq_yes method 2 e)

  pub is_partition : (method ≡ 1 → ⊥) → (method ≡ 2 → ⊥) → method_of p q amounts method k ≡ partition_method p q amounts k
  unfolding method_of
  is_partition e f = rw (eq_no method 1 e, eq_no method 2 f)

pub same_count : {m n : Method} → m ≡ n → m.count ≡ n.count
same_count = ap (λ (m : Method). m.count)

-- what was counted of a method by another name
pub quoted : {m n : Method} → m ≡ n → {r : Quote} → QuoteOf r n → QuoteOf r m
quoted same e = rw same e
