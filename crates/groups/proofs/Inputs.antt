-- A list over all inputs is cut at the columns: the input at a place is found by counting off columns, and a sum over all is a sum of sums.
use mathlib.Core.Path.{◌≡◌, refl, ap, ap₂, ◌∙◌}
use mathlib.Core.List.{◌++◌}
use Prim.Native.Nat.{ℕ, zero, suc, ◌+◌, ◌-◌, ◌<◌}
use native.Mathlib.Decide.{dec_lt}
use native.Mathlib.Omega.{arith}
use lib.ListN.{length, get_or, length-append, get_or-append}
use lib.Seq.{get_or-append-add}
use Rattle.digits.specs.Range.{sum_to, list_to}
use Rattle.digits.proofs.Range.{sum_same, sum_split, sum_more}
use Rattle.digits.proofs.Listed.{get_d_list, length-list, list_same}
use Rattle.groups.specs.Groups.{over_inputs}

-- lists over inputs that agree in every column
pub over_same : (bits bits' : ℕ → ℕ) (f g : ℕ → ℕ → ℕ) (n : ℕ) → ((col : ℕ) → col < n → bits col ≡ bits' col)
    → ((col j : ℕ) → col < n → f col j ≡ g col j) → over_inputs bits f n ≡ over_inputs bits' g n
over_same bits bits' f g zero e h = refl
over_same bits bits' f g (suc n) e h =
    ap₂ ◌++◌ (over_same bits bits' f g n (λ col k. e col (omega arith)) (λ col j k. h col j (omega arith)))
    (ap (λ (m : ℕ). list_to m (f n)) (e n (omega arith)) ∙ list_same (bits' n) (f n) (g n) (λ j k. h n j (omega arith)))

module _ (bits : ℕ → ℕ) where
  pub length_over : (f : ℕ → ℕ → ℕ) (n : ℕ) → length (over_inputs bits f n) ≡ sum_to n bits
  length_over f zero = refl
  length_over f (suc n) =
      length-append (over_inputs bits f n) _ ∙ omega (arith, length_over f n, length-list (bits n) (f n))

  -- power i of column col, of n columns, stands after the inputs of the columns before
  pub get_d_over : (f : ℕ → ℕ → ℕ) (n col i : ℕ) → col < n → i < bits col → get_or (over_inputs bits f n) (sum_to col bits + i) 0 ≡ f col i
  get_d_over f zero col i h g = absurd (omega arith)
  get_d_over f (suc n) col i h g = by_column (get_d_over f n col i) (dec_lt col n)
    where
      by_column : (col < n → i < bits col → get_or (over_inputs bits f n) (sum_to col bits + i) 0 ≡ f col i) → Dec (col < n)
          → get_or (over_inputs bits f n ++ list_to (bits n) (f n)) (sum_to col bits + i) 0 ≡ f col i
      by_column ih (yes lt) =
          get_or-append (over_inputs bits f n) _ 0 _ (omega (arith, length_over f n, sum_more bits (suc col) n lt)) ∙ ih lt g
      by_column ih (no ge) =
          let last : col ≡ n = omega arith in
          let at : sum_to n bits + i ≡ length (over_inputs bits f n) + i = omega (arith, length_over f n) in
          rw (last, at) (get_or-append-add (over_inputs bits f n) _ i 0 ∙ get_d_list (bits n) (f n) 0 i (rw last at g))

  -- the column and the power of the input at a place
  pub record Place (n j : ℕ) : Type 0 where
    pub column : ℕ
    pub power : ℕ
    pub column_low : column < n
    pub power_low : power < bits column
    pub here : j ≡ sum_to column bits + power

  pub place : (n j : ℕ) → j < sum_to n bits → Place n j
  place zero j h = absurd (omega arith)
  place (suc n) j h = by_place (place n j) (dec_lt j (sum_to n bits))
    where
      by_place : (j < sum_to n bits → Place n j) → Dec (j < sum_to n bits) → Place (suc n) j
      by_place ih (yes lt) =
          let r = ih lt in
          record { column = r.column; power = r.power; column_low = omega (arith, r.column_low); power_low = r.power_low; here = r.here }
      by_place ih (no ge) =
          record { column = n; power = j - sum_to n bits; column_low = omega arith; power_low = omega arith; here = omega arith }

  -- a sum over all inputs, column by column
  pub sum_over : (F : ℕ → ℕ) (h : ℕ → ℕ → ℕ) (n : ℕ)
      → ((col i : ℕ) → col < n → i < bits col → F (sum_to col bits + i) ≡ h col i)
      → sum_to (sum_to n bits) F ≡ sum_to n (λ col. sum_to (bits col) (h col))
  sum_over F h zero e = refl
  sum_over F h (suc n) e =
      sum_split (sum_to n bits) (bits n) F
      ∙ ap₂ ◌+◌ (sum_over F h n (λ col i g. e col i (omega arith))) (sum_same (bits n) _ _ (λ i g. e n i (omega arith) g))
