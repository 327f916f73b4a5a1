-- Table after table: each is made from inputs that stand before it and leaves what stands there, so after all of them every part is made.
use mathlib.Core.Path.{◌≡◌, refl, sym, ap, ◌∙◌}
use mathlib.Core.List.{List}
use Prim.Native.Nat.{ℕ, zero, suc, ◌+◌, ◌-◌, ◌*◌, ◌^◌, ◌≤◌, ◌<◌}
use native.Mathlib.Nat.{one-mul, mul-le-mul_right, le_trans, le_refl}
use native.Mathlib.Decide.{dec_lt}
use native.Mathlib.Omega.{arith}
use lib.ListN.{length, length-append}
use Rattle.chain.specs.declared.Step.{Step}
use Rattle.chain.proofs.Exponents.{Makes}
use Rattle.digits.specs.Digits.{digit}
use Rattle.digits.specs.Range.{sum_to}
use Rattle.digits.proofs.Range.{sum_le, sum_split, sum_more}
use Rattle.digits.proofs.Vector.{digit_low}
use Rattle.tables.specs.Table.{entry, table}
use Rattle.products.proofs.Sound.{Begins, begins_own, begins_more, begins_on, makes_on, Sound}
use Rattle.tables.proofs.Table.{table_count_lem}
use Rattle.tables.proofs.Entries.{combined, Inputs, Entries, table_makes}
use Rattle.groups.specs.Groups.{group, group_size, group_tables, table_steps}
use Rattle.groups.proofs.Groups.{get_d_group, group_within, length-group}

-- the value number of part t of group e
abbrev pub part_of : ℕ → ℕ → List ℕ → List Step → ℕ → ℕ → ℕ
part_of p c members start e t = entry 1 (group c e members) (p + length (group_tables p c members start e) + 1) t

-- the steps of the tables add up
pub tables_count_lem : (p c : ℕ) (members : List ℕ) (start : List Step) (g : ℕ)
    → length (group_tables p c members start g)
    ≡ length start + sum_to g (λ e. table_steps (group_size c (length members) e))
tables_count_lem p c members start zero = omega arith
tables_count_lem p c members start (suc g) =
    let r = group_tables p c members start g in
    let own = group c g members in
    let size : length (table 1 own (p + length r + 1) (2 ^ length own)) ≡ table_steps (group_size c (length members) g) =
    ap (λ (n : ℕ). length (table 1 own (p + length r + 1) (2 ^ n))) (sym (one-mul (length own)))
    ∙ table_count_lem 1 (omega arith) own (p + length r + 1) (length own)
    ∙ ap (λ (n : ℕ). 2 ^ n - length own - 1) (one-mul (length own))
    ∙ ap table_steps (length-group c g members) in
    length-append r _ ∙ omega (arith, size, tables_count_lem p c members start g)

-- the first g groups' tables are made: part t of group e makes the sum of its members' exponents
pub record Tabled (p limit c : ℕ) (members : List ℕ) (start : List Step) (x : ℕ → ℕ → ℕ) (g : ℕ) : Type 0 where
  pub sound : Sound p limit (group_tables p c members start g)
  pub begins : Begins start (group_tables p c members start g)
  pub makes : (e t : ℕ) → e < g → t < 2 ^ (1 * length (group c e members))
      → Makes p (group_tables p c members start g) (part_of p c members start e t) (combined 1 (length (group c e members)) (λ j. x (e * c + j)) t)

module _ (p limit c : ℕ) (members : List ℕ) (start : List Step) (x : ℕ → ℕ → ℕ) (given : Inputs p start members x)
    (low : (d : ℕ) → d < p → sum_to (length members) (λ j. x j d) ≤ limit) where
  -- a group's members are inputs
  own_inputs : (g : ℕ) (r : List Step) → Begins start r → Inputs p r (group c g members) (λ j. x (g * c + j))
  own_inputs g r b =
      record {
        nonempty = λ j h. rw (get_d_group c g members j h) (given.nonempty (g * c + j) (inside j h));
        makes = λ j h. rw (get_d_group c g members j h) (makes_on b (given.makes (g * c + j) (inside j h)));
      }
    where
      inside : (j : ℕ) → j < length (group c g members) → g * c + j < length members
      inside j h = group_within c g (length members) j (omega (arith, length-group c g members))

  -- a part of a group has no more than all inputs together
  part_low : (g t d : ℕ) → d < p → combined 1 (length (group c g members)) (λ j. x (g * c + j)) t d ≤ limit
  part_low g t d h =
      let n : ℕ = length (group c g members) in
      let each : combined 1 n (λ j. x (g * c + j)) t d ≤ sum_to n (λ j. x (g * c + j) d) =
      sum_le n _ _ (λ j k. le_trans (mul-le-mul_right (x (g * c + j) d) (bit t j)) (omega (arith, one-mul (x (g * c + j) d)))) in
      by_size n (length-group c g members) each
    where
      bit : (t j : ℕ) → digit 1 t j ≤ 1
      bit t j = let b = digit_low 1 t j in omega arith

      by_size : (n : ℕ) → n ≡ group_size c (length members) g → combined 1 n (λ j. x (g * c + j)) t d ≤ sum_to n (λ j. x (g * c + j) d)
          → combined 1 n (λ j. x (g * c + j)) t d ≤ limit
      by_size zero e l = omega arith
      by_size (suc n) e l =
          let block = sum_split (g * c) (suc n) (λ j. x j d) in
          let more = sum_more (λ j. x j d) (g * c + suc n) (length members) (omega arith) in
          omega (arith, low d h)

  pub tables_make : Sound p limit start → (g : ℕ) → Tabled p limit c members start x g
  tables_make s zero = record { sound = s; begins = begins_own start; makes = λ e t h. absurd (omega arith) }
  tables_make s (suc g) = more (tables_make s g)
    where
      r : List Step
      r = group_tables p c members start g

      own : List ℕ
      own = group c g members

      more : Tabled p limit c members start x g → Tabled p limit c members start x (suc g)
      more q =
          record { sound = done.sound; begins = begins_on q.begins (begins_more r _); makes = λ e t h. by_group e t h (dec_lt e g) }
        where
          done : Entries p limit 1 r own (p + length r + 1) (λ j. x (g * c + j)) (2 ^ length own)
          done =
              table_makes p limit 1 (omega arith) r own (p + length r + 1) (λ j. x (g * c + j)) refl (own_inputs g r q.begins)
              (λ t d h k. part_low g t d k) q.sound (2 ^ length own) (rw (one-mul (length own)) (le_refl _))

          by_group : (e t : ℕ) → e < suc g → Dec (e < g) → t < 2 ^ (1 * length (group c e members))
              → Makes p (group_tables p c members start (suc g)) (part_of p c members start e t) (combined 1 (length (group c e members)) (λ j. x (e * c + j)) t)
          by_group e t h (yes lt) k = makes_on (begins_more r _) (q.makes e t lt k)
          by_group e t h (no ge) k =
              let last : e ≡ g = omega arith in
              rw last (done.makes t (rw (last, one-mul (length own)) at k))
