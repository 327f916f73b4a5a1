-- Steps only get more: what a value is stays so, and a step of two known values keeps the steps legal and their exponents within a limit.
use mathlib.Core.Path.{◌≡◌, refl, sym, ap, ◌∙◌}
use mathlib.Core.List.{List, [], ◌∷◌, ◌++◌, append-nil, append_assoc}
use Prim.Native.Nat.{ℕ, zero, suc, ◌+◌, ◌≤◌, ◌<◌, min, max}
use native.Mathlib.Decide.{dec_lt, dec_le, ℕ_discrete}
use native.Mathlib.Nat.{add_comm}
use native.Mathlib.Omega.{arith}
use lib.ListN.{length, length-append}
use Rattle.chain.specs.Verdict.{fine}
use Rattle.chain.specs.Chain.{steps_rule, exponent_of}
use Rattle.chain.specs.declared.Step.{Step}
use Rattle.chain.proofs.Steps.{steps_snoc}
use Rattle.chain.proofs.Exponents.{exponent_zero, exponent_unit, exponent_other, Makes, makes_keep, makes_new, makes_like, Within, within_new}
use Rattle.digits.proofs.Vector.{delta, delta_same, delta_other, delta_low}
use Rattle.products.specs.Product.{ordered}

-- steps that begin with others
pub record Begins (before steps : List Step) : Type 0 where
  pub rest : List Step
  pub whole : steps ≡ before ++ rest

pub begins_own : (steps : List Step) → Begins steps steps
begins_own steps = record { rest = []; whole = sym (append-nil steps) }

pub begins_more : (steps more : List Step) → Begins steps (steps ++ more)
begins_more steps more = record { rest = more; whole = refl }

pub begins_on : {a b c : List Step} → Begins a b → Begins b c → Begins a c
begins_on {a} f g =
    record {
      rest = f.rest ++ g.rest;
      whole = g.whole ∙ ap (λ (l : List Step). l ++ g.rest) f.whole ∙ append_assoc a f.rest g.rest;
    }

-- lists that each begin with the one before
pub begins_rise : (f : ℕ → List Step) → ((i : ℕ) → Begins (f i) (f (suc i))) → (i j : ℕ) → i ≤ j → Begins (f i) (f j)
begins_rise f each zero zero h = begins_own (f zero)
begins_rise f each (suc i) zero h = absurd (omega arith)
begins_rise f each i (suc j) h = by_place (begins_rise f each i j) (dec_le i j)
  where
    by_place : (i ≤ j → Begins (f i) (f j)) → Dec (i ≤ j) → Begins (f i) (f (suc j))
    by_place ih (yes le) = begins_on (ih le) (each j)
    by_place ih (no gt) = let last : i ≡ suc j = omega arith in rw last (begins_own (f (suc j)))

pub begins_length : {a b : List Step} → Begins a b → length a ≤ length b
begins_length {a} f = omega (arith, ap length f.whole, length-append a f.rest)

-- what a value is stays so
pub makes_on : {p : ℕ} {a b : List Step} {v : ℕ} {x : ℕ → ℕ} → Begins a b → Makes p a v x → Makes p b v x
makes_on {p} {a} {b} {v} {x} f m = rw f.whole (makes_keep p a f.rest v x m)

-- a base is the unit of its column
pub makes_base : (p : ℕ) (steps : List Step) (b : ℕ) → b < p → Makes p steps (b + 1) (λ c. delta b c)
makes_base p steps b h = record { there = omega arith; exponent = λ c g. by_column c g (ℕ_discrete b c) }
  where
    by_column : (c : ℕ) → c < p → Dec (b ≡ c) → exponent_of p steps c (b + 1) ≡ delta b c
    by_column c g (yes e) = rw e (exponent_unit p c steps g ∙ sym (delta_same c))
    by_column c g (no ne) = exponent_other p c steps b h ne ∙ sym (delta_other b c ne)

-- legal steps, none of whose values has an exponent above the limit
pub record Sound (p limit : ℕ) (steps : List Step) : Type 0 where
  pub legal : steps_rule p 1 steps ≡ fine
  pub within : Within p steps limit

pub sound_none : (p limit : ℕ) → 1 ≤ limit → Sound p limit []
sound_none p limit h = record { legal = refl; within = record { low = low } }
  where
    low : (v c : ℕ) → v ≤ p + 0 → c < p → exponent_of p [] c v ≤ limit
    low zero c g hc = rw (exponent_zero p c []) (omega arith)
    low (suc b) c g hc =
        let e : suc b ≡ b + 1 = omega arith in
        rw (e, (makes_base p [] b (omega arith)).exponent c hc) (delta_low b c limit h)

-- a step more: the larger of two values, then the smaller
module _ (p : ℕ) (steps : List Step) (a b : ℕ) {x y : ℕ → ℕ} where
  pub makes_ordered : Makes p steps a x → Makes p steps b y → Makes p (steps ++ ordered a b ∷ []) (p + length steps + 1) (λ c. x c + y c)
  makes_ordered m n = by_order (dec_lt a b)
    where
      by_order : Dec (a < b) → Makes p (steps ++ ordered a b ∷ []) (p + length steps + 1) (λ c. x c + y c)
      by_order (yes lt) =
          let u : max a b ≡ b = omega arith in
          let v : min a b ≡ a = omega arith in
          rw (u, v) (makes_like p _ _ _ _ (λ c h. add_comm (y c) (x c)) (makes_new p steps b a y x n m))
      by_order (no ge) =
          let u : max a b ≡ a = omega arith in
          let v : min a b ≡ b = omega arith in
          rw (u, v) (makes_new p steps a b x y m n)

  pub sound_ordered : (limit : ℕ) → Sound p limit steps → 0 < a → 0 < b → Makes p steps a x → Makes p steps b y → ((c : ℕ) → c < p → x c + y c ≤ limit)
      → Sound p limit (steps ++ ordered a b ∷ [])
  sound_ordered limit s ha hb m n low =
      let la = m.there in
      let lb = n.there in
      record {
        legal = steps_snoc p steps (ordered a b) s.legal
            (record { first_some = omega arith; second_some = omega arith; first_low = omega arith; second_low = omega arith; in_order = omega arith });
        within = within_new p steps (ordered a b) limit _ s.within (makes_ordered m n) low;
      }
