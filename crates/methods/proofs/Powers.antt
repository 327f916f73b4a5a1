-- By induction on the columns: j squarings of a base make 2^j of its column, at the value number that the squarings before it tell.
use mathlib.Core.Path.{◌≡◌, refl, sym, ap, ◌∙◌}
use Prim.Native.Nat.{ℕ, zero, suc, ◌+◌, ◌*◌, ◌^◌, ◌≤◌, ◌<◌}
use native.Mathlib.Nat.{one-mul, le_refl, le_trans}
use native.Mathlib.Decide.{dec_lt}
use native.Mathlib.Omega.{arith}
use lib.ListN.{length}
use lib.Pow.{pow_mono}
use Rattle.chain.proofs.Rules.{eq_yes, eq_no}
use Rattle.chain.proofs.Exponents.{Makes}
use Rattle.digits.specs.Range.{sum_to, sign}
use Rattle.digits.proofs.Range.{sign_some}
use Rattle.digits.proofs.Vector.{delta, delta_part}
use Rattle.products.specs.Product.{Made, made, squared}
use Rattle.methods.specs.Powers.{squarings, power_of}
use Rattle.products.proofs.Sound.{makes_on, makes_base, Sound, sound_none}
use Rattle.products.proofs.Product.{squared_count, squared_last, squared_begins, Result, result_value, result_squared}

-- as many steps as squarings
pub squarings_count : (p : ℕ) (n : ℕ → ℕ) (c : ℕ) → length (squarings p n c) ≡ sum_to c n
squarings_count p n zero = refl
squarings_count p n (suc c) =
    let some : sign (c + 1) ≡ 1 = sign_some (c + 1) (omega arith) in
    omega (arith, squared_count p (n c) (made (squarings p n c) (c + 1)), squarings_count p n c, ap (λ (s : ℕ). s * n c) some, one-mul (n c))

-- no power is empty
pub power_some : (p : ℕ) (n : ℕ → ℕ) (c j : ℕ) → 0 < power_of p n c j
power_some p n c zero = rw (eq_yes 0 0 refl) (omega arith)
power_some p n c (suc j) = rw (eq_no (suc j) 0 (omega arith)) (omega arith)

-- the value number of a power is that of its last squaring
power_last : (p : ℕ) (n : ℕ → ℕ) (c j : ℕ) → power_of p n c j ≡ (squared p j (made (squarings p n c) (c + 1))).value
power_last p n c zero = rw (eq_yes 0 0 refl)
power_last p n c (suc j) =
    rw (eq_no (suc j) 0 (omega arith))
    (sym (squared_last p j (made (squarings p n c) (c + 1)) (omega arith) ∙ ap (λ (s : ℕ). p + s + suc j) (squarings_count p n c)))

-- the squarings of the first columns: power j of a column makes 2^j of it
pub record Powers (p limit : ℕ) (n : ℕ → ℕ) (columns : ℕ) : Type 0 where
  pub sound : Sound p limit (squarings p n columns)
  pub makes : (c j : ℕ) → c < columns → j ≤ n c → Makes p (squarings p n columns) (power_of p n c j) (λ d. delta c d * 2 ^ j)

pub powers : (p limit : ℕ) (n : ℕ → ℕ) → 1 ≤ limit → ((c : ℕ) → c < p → 2 ^ n c ≤ limit) → (columns : ℕ) → columns ≤ p → Powers p limit n columns
powers p limit n some low zero h = record { sound = sound_none p limit some; makes = λ c j g. absurd (omega arith) }
powers p limit n some low (suc c) h = more (powers p limit n some low c (omega arith))
  where
    base : Made
    base = made (squarings p n c) (c + 1)

    more : Powers p limit n c → Powers p limit n (suc c)
    more r = record { sound = (power (n c) (le_refl (n c))).sound; makes = λ d j g. by_column d j g (dec_lt d c) }
      where
        power : (j : ℕ) → j ≤ n c → Result p limit (squarings p n c) (squared p j base) (λ d. delta c d * 2 ^ j)
        power j g =
            result_squared j (result_value r.sound (makes_base p (squarings p n c) c (omega arith)))
            (λ d hd. le_trans (delta_part c d (2 ^ j)) (le_trans (pow_mono g) (low c (omega arith))))

        by_column : (d j : ℕ) → d < suc c → Dec (d < c) → j ≤ n d → Makes p (squarings p n (suc c)) (power_of p n d j) (λ e. delta d e * 2 ^ j)
        by_column d j g (yes lt) hj = makes_on (power (n c) (le_refl (n c))).begins (r.makes d j lt hj)
        by_column d j g (no ge) hj =
            let last : d ≡ c = omega arith in
            rw (last, power_last p n c j) (makes_on (squared_begins p base j (n c) (rw last at hj)) (power j (rw last at hj)).makes)
