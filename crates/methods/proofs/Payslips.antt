-- By induction on the payslips: where each is right after any sound steps, all are, and their steps add up.
use mathlib.Core.Path.{◌≡◌, refl, ◌∙◌}
use mathlib.Core.List.{List, [], ◌∷◌, ◌++◌}
use Prim.Native.Nat.{ℕ, zero, suc, ◌+◌, ◌<◌}
use native.Mathlib.Decide.{dec_lt}
use native.Mathlib.Omega.{arith}
use lib.ListN.{length, get_or, length-append, get_or-append}
use lib.Seq.{get_or_at}
use Rattle.chain.specs.Verdict.{fine}
use Rattle.chain.specs.Chain.{Chain, outputs_rule}
use Rattle.chain.specs.declared.Step.{Step}
use Rattle.chain.proofs.Exponents.{Makes}
use Rattle.chain.proofs.Limits.{low_outputs}
use Rattle.digits.specs.Range.{sum_to}
use Rattle.products.specs.Product.{Made, payslips}
use Rattle.products.proofs.Sound.{Begins, begins_own, begins_on, makes_on, Sound}
use Rattle.products.proofs.Product.{Result}

-- a chain whose q outputs make the payslips x 0, x 1, ..
pub record Pays (p limit : ℕ) (start : List Step) (x : ℕ → ℕ → ℕ) (q : ℕ) (chain : Chain) : Type 0 where
  pub sound : Sound p limit chain.steps
  pub begins : Begins start chain.steps
  pub outputs : length chain.outputs ≡ q
  pub makes : (i : ℕ) → i < q → Makes p chain.steps (get_or chain.outputs i 0) (x i)

-- each output is a value's number
pub pays_legal : {p limit : ℕ} {start : List Step} {x : ℕ → ℕ → ℕ} {q : ℕ} {chain : Chain} → Pays p limit start x q chain
    → outputs_rule (p + length chain.steps) 1 chain.outputs ≡ fine
pays_legal {p} {limit} {start} {x} {q} {chain} r = low_outputs _ 1 chain.outputs (λ i h. (r.makes i (omega (arith, r.outputs))).there)

module _ (p limit : ℕ) (slip : ℕ → List Step → Made) (start : List Step) where
  pub payslips_make : (x : ℕ → ℕ → ℕ) (q : ℕ) → Sound p limit start
      → ((i : ℕ) → i < q → (before : List Step) → Sound p limit before → Begins start before → Result p limit before (slip i before) (x i))
      → Pays p limit start x q (payslips slip start q)
  payslips_make x zero s each = record { sound = s; begins = begins_own start; outputs = refl; makes = λ i h. absurd (omega arith) }
  payslips_make x (suc q) s each = more (payslips_make x q s (λ i h. each i (omega arith)))
    where
      done : Chain
      done = payslips slip start q

      m : Made
      m = slip q done.steps

      more : Pays p limit start x q done → Pays p limit start x (suc q) (payslips slip start (suc q))
      more r =
          record {
            sound = t.sound;
            begins = begins_on r.begins t.begins;
            outputs = length-append done.outputs _ ∙ omega (arith, r.outputs);
            makes = λ i h. by_place i h (dec_lt i q);
          }
        where
          t : Result p limit done.steps m (x q)
          t = each q (omega arith) done.steps r.sound r.begins

          by_place : (i : ℕ) → i < suc q → Dec (i < q) → Makes p m.steps (get_or (done.outputs ++ m.value ∷ []) i 0) (x i)
          by_place i h (yes lt) =
              rw (get_or-append done.outputs (m.value ∷ []) 0 i (omega (arith, r.outputs))) (makes_on t.begins (r.makes i lt))
          by_place i h (no ge) =
              let last : i ≡ q = omega arith in
              rw (last, get_or_at done.outputs m.value [] 0 q r.outputs) t.makes

-- the steps add up, whatever the steps before a payslip are
pub payslips_count_lem : (slip : ℕ → List Step → Made) (start : List Step) (count : ℕ → ℕ) (q : ℕ)
    → ((i : ℕ) → i < q → (before : List Step) → length (slip i before).steps ≡ length before + count i)
    → length (payslips slip start q).steps ≡ length start + sum_to q count
payslips_count_lem slip start count zero each = omega arith
payslips_count_lem slip start count (suc q) each =
    omega (arith, each q (omega arith) (payslips slip start q).steps, payslips_count_lem slip start count q (λ i h. each i (omega arith)))
