-- By induction on t: an entry is its rest, made before it, and one input, so entry t makes the sum of digit j of t times the exponents of input j.
use mathlib.Core.Bool.{Bool, true, false}
use mathlib.Core.Path.{◌≡◌, refl, sym, ap, ◌∙◌}
use mathlib.Core.List.{List, [], ◌∷◌, ◌++◌, append-nil, append_assoc}
use Prim.Native.Nat.{ℕ, zero, suc, ◌+◌, ◌-◌, ◌*◌, ◌^◌, ◌≤◌, ◌<◌}
use native.Mathlib.Nat.{add-mul, zero-mul, le_refl}
use native.Mathlib.Decide.{dec_lt, ℕ_discrete}
use native.Mathlib.Omega.{arith}
use lib.ListN.{length, get_or, length-append}
use lib.Pow.{pow_pos}
use Rattle.chain.specs.declared.Step.{Step}
use Rattle.chain.proofs.Rules.{is_eq, not_eq}
use Rattle.chain.proofs.Exponents.{Makes, makes_zero, makes_like}
use Rattle.digits.specs.Digits.{digit_count, digit}
use Rattle.digits.specs.Range.{sum_to}
use Rattle.digits.proofs.Range.{sum_same, sum-zero, sum-add, sign_some, sign_pos}
use Rattle.digits.proofs.Count.{low_count, count_some, weights_rise}
use Rattle.digits.proofs.Vector.{delta, digit_zero, digit_unit_lem, sum_delta, Less, digit_less}
use Rattle.products.specs.Product.{ordered}
use Rattle.tables.specs.Table.{is_unit, entry, lowest, table}
use Rattle.products.proofs.Sound.{Begins, begins_own, begins_more, makes_on, Sound, makes_ordered, sound_ordered}
use Rattle.tables.proofs.Table.{Lowest, lowest_digit, next_zero, next_unit, next_new, entry_zero, entry_unit, entry_new, entry_sign}

-- the sum of digit j of t times the exponents of input j, of n inputs
abbrev pub combined : ℕ → ℕ → (ℕ → ℕ → ℕ) → ℕ → ℕ → ℕ
combined k n x t c = sum_to n (λ j. digit k t j * x j c)

module _ (k n : ℕ) (some : 0 < k) (x : ℕ → ℕ → ℕ) (c : ℕ) where
  pub combined_zero : combined k n x 0 c ≡ 0
  combined_zero = sum-zero n _ (λ j h. ap (λ (d : ℕ). d * x j c) (digit_zero k j) ∙ zero-mul (x j c))

  combined_unit : (d : ℕ) → d < n → combined k n x (2 ^ (k * d)) c ≡ x d c
  combined_unit d h =
      sum_same n _ _ (λ j g. ap (λ (y : ℕ). y * x j c) (digit_unit_lem k n d j some h g)) ∙ sum_delta n (λ j. x j c) d h

  combined_less : (t l : ℕ) → l < n → Less k n t l → combined k n x (t - 2 ^ (k * l)) c + x l c ≡ combined k n x t c
  combined_less t l h less =
      ap (λ (y : ℕ). combined k n x (t - 2 ^ (k * l)) c + y) (sym (sum_delta n (λ j. x j c) l h))
      ∙ sym (sum-add n _ _)
      ∙ sum_same n _ _ (λ j g. sym (add-mul (digit k (t - 2 ^ (k * l)) j) (delta j l) (x j c)) ∙ ap (λ (d : ℕ). d * x j c) (less.digits j g))

-- the inputs of a table: values of the steps before, none of them empty, input j having the exponents x j
pub record Inputs (p : ℕ) (before : List Step) (inputs : List ℕ) (x : ℕ → ℕ → ℕ) : Type 0 where
  pub nonempty : (j : ℕ) → j < length inputs → 0 < get_or inputs j 0
  pub makes : (j : ℕ) → j < length inputs → Makes p before (get_or inputs j 0) (x j)

-- the entries below T are made, where the table's first step makes value at
pub record Entries (p limit k : ℕ) (before : List Step) (inputs : List ℕ) (at : ℕ) (x : ℕ → ℕ → ℕ) (T : ℕ) : Type 0 where
  pub sound : Sound p limit (before ++ table k inputs at T)
  pub makes : (t : ℕ) → t < T → Makes p (before ++ table k inputs at T) (entry k inputs at t) (combined k (length inputs) x t)

module _ (p limit k : ℕ) (some : 0 < k) (before : List Step) (inputs : List ℕ) (at : ℕ) (x : ℕ → ℕ → ℕ)
    (first : at ≡ p + length before + 1) (given : Inputs p before inputs x)
    (low : (t c : ℕ) → t < 2 ^ (k * length inputs) → c < p → combined k (length inputs) x t c ≤ limit) where
  abbrev After : ℕ → List Step
  After T = before ++ table k inputs at T

  abbrev Done : ℕ → Type 0
  Done = Entries p limit k before inputs at x

  -- one entry more
  extend : (T : ℕ) → Done T → Begins (After T) (After (suc T)) → Sound p limit (After (suc T))
      → Makes p (After (suc T)) (entry k inputs at T) (combined k (length inputs) x T) → Done (suc T)
  extend T r b s m = record { sound = s; makes = λ t h. by_place t h (dec_lt t T) }
    where
      by_place : (t : ℕ) → t < suc T → Dec (t < T) → Makes p (After (suc T)) (entry k inputs at t) (combined k (length inputs) x t)
      by_place t h (yes lt) = makes_on b (r.makes t lt)
      by_place t h (no ge) =
          let last : t ≡ T = omega arith in
          rw last m

  -- an entry that costs no step
  extend_free : (T : ℕ) → Done T → table k inputs at (suc T) ≡ table k inputs at T
      → Makes p (After T) (entry k inputs at T) (combined k (length inputs) x T) → Done (suc T)
  extend_free T r same m = extend T r (rw same (begins_own (After T))) (rw same r.sound) (rw same m)

  make_zero : Done 0 → Done 1
  make_zero r =
      extend_free 0 r (next_zero k some inputs at [])
      (rw (entry_zero k some inputs at) (makes_like p _ 0 _ _ (λ c h. sym (combined_zero k (length inputs) some x c)) (makes_zero p (After 0))))

  make_unit : (t : ℕ) → suc t < 2 ^ (k * length inputs) → is_unit k (suc t) ≡ true → Done (suc t) → Done (suc (suc t))
  make_unit t h u r =
      let d : ℕ = digit_count k (suc t) - 1 in
      let d-low : d < length inputs = omega (arith, count_some k t, low_count k some (suc t) (length inputs) h) in
      let power : suc t ≡ 2 ^ (k * d) = is_eq _ _ u in
      let same : (c : ℕ) → combined k (length inputs) x (suc t) c ≡ x d c =
      λ c. ap (λ (n : ℕ). combined k (length inputs) x n c) power ∙ combined_unit k (length inputs) some x c d d-low in
      extend_free (suc t) r (next_unit k some inputs at t (table k inputs at (suc t)) u)
      (rw (entry_unit k some inputs at t u)
      (makes_like p _ _ _ _ (λ c g. sym (same c)) (makes_on (begins_more before (table k inputs at (suc t))) (given.makes d d-low))))

  make_step : (t : ℕ) → suc t < 2 ^ (k * length inputs) → is_unit k (suc t) ≡ false → Done (suc t) → Done (suc (suc t))
  make_step t h u r =
      extend (suc t) r (rw next (begins_more (After (suc t)) _))
      (rw next (sound_ordered p (After (suc t)) a b limit r.sound a_some b_some a_makes b_makes limited))
      (rw (next, here) (makes_like p _ _ _ _ (λ c g. sums c) (makes_ordered p (After (suc t)) a b a_makes b_makes)))
    where
      l : ℕ
      l = lowest k (suc t)

      l_found : Lowest k (suc t)
      l_found = lowest_digit k t some

      l_low : l < length inputs
      l_low = omega (arith, l_found.below, low_count k some (suc t) (length inputs) h)

      less : Less k (length inputs) (suc t) l
      less = digit_less k (length inputs) (suc t) l some h l_low l_found.nonzero

      rest : ℕ
      rest = suc t - 2 ^ (k * l)

      rest_low : rest < suc t
      rest_low = omega (arith, pow_pos (k * l))

      -- the rest is not zero, since the entry is no unit
      rest_some : 0 < rest
      rest_some = by_size (ℕ_discrete (suc t) (2 ^ (k * l)))
        where
          by_size : Dec (suc t ≡ 2 ^ (k * l)) → 0 < rest
          by_size (no other) = omega (arith, less.fits)
          by_size (yes same) =
              let few = low_count k some (suc t) (suc l) (omega (arith, weights_rise k some l (suc l) (le_refl (suc l)))) in
              let top : l ≡ digit_count k (suc t) - 1 = omega (arith, l_found.below) in
              absurd (not_eq _ _ u (same ∙ ap (λ (n : ℕ). 2 ^ (k * n)) top))

      a : ℕ
      a = entry k inputs at rest

      b : ℕ
      b = get_or inputs l 0

      a_some : 0 < a
      a_some =
          sign_pos a (entry_sign k some inputs at (omega arith) given.nonempty rest (omega (arith, rest_low)) ∙ sign_some rest rest_some)

      b_some : 0 < b
      b_some = given.nonempty l l_low

      a_makes : Makes p (After (suc t)) a (combined k (length inputs) x rest)
      a_makes = r.makes rest rest_low

      b_makes : Makes p (After (suc t)) b (x l)
      b_makes = makes_on (begins_more before (table k inputs at (suc t))) (given.makes l l_low)

      sums : (c : ℕ) → combined k (length inputs) x rest c + x l c ≡ combined k (length inputs) x (suc t) c
      sums c = combined_less k (length inputs) some x c (suc t) l l_low less

      limited : (c : ℕ) → c < p → combined k (length inputs) x rest c + x l c ≤ limit
      limited c g = rw (sums c) (low (suc t) c h g)

      next : After (suc (suc t)) ≡ After (suc t) ++ ordered a b ∷ []
      next =
          ap (λ (s : List Step). before ++ s) (next_new k some inputs at t (table k inputs at (suc t)) u)
          ∙ sym (append_assoc before (table k inputs at (suc t)) (ordered a b ∷ []))

      here : entry k inputs at (suc t) ≡ p + length (After (suc t)) + 1
      here = entry_new k some inputs at t u ∙ omega (arith, length-append before (table k inputs at (suc t)))

  pub table_makes : Sound p limit before → (T : ℕ) → T ≤ 2 ^ (k * length inputs) → Done T
  table_makes s zero h = record { sound = rw append-nil s; makes = λ t g. absurd (omega arith) }
  table_makes s (suc zero) h = make_zero (table_makes s zero (omega arith))
  table_makes s (suc (suc t)) h = by_unit (table_makes s (suc t) (omega arith)) (is_unit k (suc t)) refl
    where
      by_unit : Done (suc t) → (b : Bool) → is_unit k (suc t) ≡ b → Done (suc (suc t))
      by_unit r true u = make_unit t h u r
      by_unit r false u = make_step t h u r
