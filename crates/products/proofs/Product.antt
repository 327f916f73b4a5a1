-- A product has the sum of the exponents of its sides and costs a step where neither is empty, so it grows by one step with each nonempty factor.
use mathlib.Core.Path.{◌≡◌, refl, sym, ap, ◌∙◌}
use mathlib.Core.List.{List, [], ◌∷◌, ◌++◌}
use Prim.Native.Nat.{ℕ, zero, suc, ◌+◌, ◌*◌, ◌^◌, ◌≤◌, ◌<◌}
use native.Mathlib.Nat.{mul-one, one-mul, mul-zero, zero-mul, mul-suc, mul_assoc, pow-suc}
use native.Mathlib.Omega.{arith}
use lib.ListN.{length, length-append}
use Rattle.chain.specs.Chain.{exponent_of}
use Rattle.chain.specs.declared.Step.{Step}
use Rattle.chain.proofs.Rules.{eq_yes, eq_no}
use Rattle.chain.proofs.Exponents.{exponent_zero, Makes, makes_zero, makes_like}
use Rattle.digits.specs.Range.{sign}
use Rattle.digits.proofs.Range.{sign_low, sign_some, sign_pos, sign-add}
use Rattle.products.specs.Product.{Made, made, ordered, times, squared}
use Rattle.products.proofs.Sound.{Begins, begins_own, begins_more, begins_on, begins_rise, Sound, makes_ordered, sound_ordered}

-- the three cases of a product: an empty one, an empty factor, and a step
module _ (p : ℕ) (m : Made) (y : ℕ) where
  pub times_start : m.value ≡ 0 → times p m y ≡ made m.steps y
  unfolding times
  times_start e = rw (eq_yes m.value 0 e)

  pub times_copy : 0 < m.value → y ≡ 0 → times p m y ≡ m
  unfolding times
  times_copy h e = rw (eq_no m.value 0 (omega arith), eq_yes y 0 e)

  pub times_new : 0 < m.value → 0 < y → times p m y ≡ made (m.steps ++ ordered m.value y ∷ []) (p + length m.steps + 1)
  unfolding times
  times_new h g = rw (eq_no m.value 0 (omega arith), eq_no y 0 (omega arith))

  pub times_begins : Begins m.steps (times p m y).steps
  times_begins = by_value m.value refl y refl
    where
      by_value : (a : ℕ) → m.value ≡ a → (b : ℕ) → y ≡ b → Begins m.steps (times p m y).steps
      by_value zero ea b eb = rw (times_start ea) (begins_own m.steps)
      by_value (suc a) ea zero eb = rw (times_copy (omega arith) eb) (begins_own m.steps)
      by_value (suc a) ea (suc b) eb = rw (times_new (omega arith) (omega arith)) (begins_more m.steps _)

-- A product costs a step where neither side is empty, and is empty where both are.
pub record Cost (m : Made) (y : ℕ) (r : Made) : Type 0 where
  pub count : length r.steps ≡ length m.steps + sign m.value * sign y
  pub value : sign r.value ≡ sign (m.value + y)

pub times_cost : (p : ℕ) (m : Made) (y : ℕ) → Cost m y (times p m y)
times_cost p m y = by_value m.value refl y refl
  where
    by_value : (a : ℕ) → m.value ≡ a → (b : ℕ) → y ≡ b → Cost m y (times p m y)
    by_value zero ea b eb =
        let only : y ≡ m.value + y = omega arith in
        rw (times_start p m y ea) (record { count = rw ea (omega (arith, zero-mul (sign y))); value = ap sign only })
    by_value (suc a) ea zero eb =
        let only : m.value ≡ m.value + y = omega arith in
        rw (times_copy p m y (omega arith) eb) (record { count = rw eb (omega (arith, mul-zero (sign m.value))); value = ap sign only })
    by_value (suc a) ea (suc b) eb =
        let both : m.value + y ≡ suc (a + suc b) = omega arith in
        let v : p + length m.steps + 1 ≡ suc (p + length m.steps) = omega arith in
        rw (times_new p m y (omega arith) (omega arith))
        (record { count = length-append m.steps _ ∙ rw (ea, eb); value = rw (both, v) })

-- So the steps, with one more for a product that is not empty, grow by one with each factor that is not empty.
sign_both : (x y : ℕ) → sign x * sign y + sign (x + y) ≡ sign x + sign y
sign_both zero y = omega (arith, zero-mul (sign y), sign-add 0 y)
sign_both (suc x) y = omega (arith, one-mul (sign y), sign-add (suc x) y, sign_low y)

pub times_spent : (p : ℕ) (m : Made) (y : ℕ) → length (times p m y).steps + sign (times p m y).value ≡ length m.steps + sign m.value + sign y
times_spent p m y =
    let r = times_cost p m y in
    omega (arith, r.count, r.value, sign_both m.value y)

sign_square : (x : ℕ) → sign x * sign x ≡ sign x
sign_square zero = refl
sign_square (suc x) = refl

sign_double : (x : ℕ) → sign (x + x) ≡ sign x
sign_double x = omega (arith, sign-add x x)

-- squaring k times: k steps, unless the product is empty
pub squared_sign : (p k : ℕ) (m : Made) → sign (squared p k m).value ≡ sign m.value
squared_sign p zero m = refl
squared_sign p (suc k) m =
    let r = squared p k m in
    (times_cost p r r.value).value ∙ sign_double r.value ∙ squared_sign p k m

pub squared_count : (p k : ℕ) (m : Made) → length (squared p k m).steps ≡ length m.steps + sign m.value * k
squared_count p zero m = omega (arith, mul-zero (sign m.value))
squared_count p (suc k) m =
    let r = squared p k m in
    omega (arith, squared_count p k m, (times_cost p r r.value).count, squared_sign p k m, sign_square r.value, mul-suc (sign m.value) k)

-- the last of k squarings makes the last value
pub squared_last : (p k : ℕ) (m : Made) → 0 < m.value → (squared p (suc k) m).value ≡ p + length m.steps + suc k
squared_last p k m h =
    let r = squared p k m in
    let some : 0 < r.value = sign_pos r.value (squared_sign p k m ∙ sign_some m.value h) in
    rw (times_new p r r.value some some)
    (omega (arith, squared_count p k m, ap (λ (n : ℕ). n * k) (sign_some m.value h), one-mul k))

-- fewer squarings are made on the way
pub squared_begins : (p : ℕ) (m : Made) (j k : ℕ) → j ≤ k → Begins (squared p j m).steps (squared p k m).steps
squared_begins p m = begins_rise (λ i. (squared p i m).steps) (λ i. times_begins p (squared p i m) (squared p i m).value)

-- After the steps before, a product with the exponents x.
pub record Result (p limit : ℕ) (before : List Step) (m : Made) (x : ℕ → ℕ) : Type 0 where
  pub sound : Sound p limit m.steps
  pub begins : Begins before m.steps
  pub makes : Makes p m.steps m.value x

module _ {p limit : ℕ} where
  -- a value of the steps before
  pub result_value : {before : List Step} {v : ℕ} {x : ℕ → ℕ} → Sound p limit before → Makes p before v x → Result p limit before (made before v) x
  result_value {before} s m = record { sound = s; begins = begins_own before; makes = m }

  pub result_empty : {before : List Step} → Sound p limit before → Result p limit before (made before 0) (λ c. 0)
  result_empty {before} s = result_value s (makes_zero p before)

  -- the same exponents, said otherwise
  pub result_like : {before : List Step} {m : Made} {x y : ℕ → ℕ} → ((c : ℕ) → c < p → x c ≡ y c) → Result p limit before m x → Result p limit before m y
  result_like {before} {m} {x} {y} e r = record { sound = r.sound; begins = r.begins; makes = makes_like p _ _ x y e r.makes }

  -- after fewer steps
  pub result_after : {a b : List Step} {m : Made} {x : ℕ → ℕ} → Begins a b → Result p limit b m x → Result p limit a m x
  result_after f r = record { sound = r.sound; begins = begins_on f r.begins; makes = r.makes }

  -- times a value: the sum
  pub result_times : {before : List Step} {m : Made} {y : ℕ} {x g : ℕ → ℕ}
      → Result p limit before m x → Makes p m.steps y g → ((c : ℕ) → c < p → x c + g c ≤ limit)
      → Result p limit before (times p m y) (λ c. x c + g c)
  result_times {before} {m} {y} {x} {g} r n low = by_value m.value refl y refl
    where
      by_value : (a : ℕ) → m.value ≡ a → (b : ℕ) → y ≡ b → Result p limit before (times p m y) (λ c. x c + g c)
      by_value zero ea b eb =
          let none : (c : ℕ) → c < p → x c ≡ 0 = λ c h. sym (r.makes.exponent c h) ∙ ap (exponent_of p m.steps c) ea ∙ exponent_zero p c m.steps in
          rw (times_start p m y ea)
          (record { sound = r.sound; begins = r.begins; makes = makes_like p _ _ g _ (λ c h. omega (arith, none c h)) n })
      by_value (suc a) ea zero eb =
          let none : (c : ℕ) → c < p → g c ≡ 0 = λ c h. sym (n.exponent c h) ∙ ap (exponent_of p m.steps c) eb ∙ exponent_zero p c m.steps in
          rw (times_copy p m y (omega arith) eb) (result_like (λ c h. omega (arith, none c h)) r)
      by_value (suc a) ea (suc b) eb =
          rw (times_new p m y (omega arith) (omega arith))
          (record {
            sound = sound_ordered p m.steps m.value y limit r.sound (omega arith) (omega arith) r.makes n low;
            begins = begins_on r.begins (begins_more m.steps _);
            makes = makes_ordered p m.steps m.value y r.makes n;
          })

  -- squared k times: the exponents times 2^k
  pub result_squared : (k : ℕ) {before : List Step} {m : Made} {x : ℕ → ℕ} → Result p limit before m x → ((c : ℕ) → c < p → x c * 2 ^ k ≤ limit)
      → Result p limit before (squared p k m) (λ c. x c * 2 ^ k)
  result_squared zero {before} {m} {x} r low = result_like (λ c h. sym (mul-one (x c))) r
  result_squared (suc k) {before} {m} {x} r low =
      let twice : (c : ℕ) → x c * 2 ^ suc k ≡ x c * 2 ^ k + x c * 2 ^ k = λ c. rw (pow-suc 2 k) (omega (arith, mul_assoc (x c) (2 ^ k) 2)) in
      let q = result_squared k r (λ c h. omega (arith, low c h, twice c)) in
      result_like (λ c h. sym (twice c)) (result_times q q.makes (λ c h. omega (arith, low c h, twice c)))
