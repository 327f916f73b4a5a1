-- A payslip's parts are multiplied group after group: by the groups' laws each adds what the payslip uses of its group, and each nonempty one costs a step.
use mathlib.Core.Path.{◌≡◌, refl, ap}
use mathlib.Core.List.{List}
use Prim.Native.Nat.{ℕ, zero, suc, ◌+◌, ◌-◌, ◌*◌, ◌^◌, ◌≤◌, ◌<◌}
use native.Mathlib.Omega.{arith}
use lib.ListN.{length, get_or}
use Rattle.chain.specs.declared.Step.{Step}
use Rattle.digits.specs.Range.{sum_to, sign}
use Rattle.digits.proofs.Range.{sign-add, sign_sign}
use Rattle.products.proofs.Sound.{Begins, begins_on, begins_rise, makes_on, Sound}
use Rattle.products.proofs.Product.{times_begins, times_cost, times_spent, Result, result_empty, result_like, result_times}
use Rattle.tables.proofs.Table.{entry_sign}
use Rattle.tables.proofs.Entries.{combined}
use Rattle.groups.specs.Groups.{group, group_tables, weigh}
use Rattle.groups.proofs.Groups.{get_d_group, group_within, length-group}
use Rattle.groups.proofs.Parts.{part_number, uses, uses_low, uses_none, uses_on}
use Rattle.groups.proofs.Tables.{Tabled, part_of}
use Rattle.partition.specs.Partition.{parts}

-- a payslip's parts only append steps
pub parts_begin : (p c : ℕ) (members : List ℕ) (start : List Step) (bits : List ℕ) (before : List Step) (g G : ℕ) → g ≤ G
    → Begins (parts p c members start bits before g).steps (parts p c members start bits before G).steps
parts_begin p c members start bits before =
    begins_rise (λ g. (parts p c members start bits before g).steps) (λ g. times_begins p (parts p c members start bits before g) _)

-- which inputs a payslip uses, 1 or 0 for each member
module _ (p c : ℕ) (members : List ℕ) (start : List Step) (bits : List ℕ) (same : length bits ≡ length members)
    (two : (j : ℕ) → j < length bits → get_or bits j 0 < 2 ^ 1) where
  module _ (limit : ℕ) (x : ℕ → ℕ → ℕ) (low : (d : ℕ) → d < p → sum_to (length members) (λ j. get_or bits j 0 * x j d) ≤ limit)
      (G : ℕ) (tables : Tabled p limit c members start x G) (before : List Step) (sound : Sound p limit before)
      (after : Begins (group_tables p c members start G) before) where
    pub parts_make : (g : ℕ) → g ≤ G → Result p limit before (parts p c members start bits before g) (uses c members bits same two x g)
    parts_make zero h = result_like (λ d k. uses_none c members bits same two x d) (result_empty sound)
    parts_make (suc g) h =
        let r = parts_make g (omega arith) in
        let t : ℕ = weigh (group c g bits) in
        let part = makes_on (begins_on after r.begins) (tables.makes g t (omega arith) (part_number c members bits same two g)) in
        result_like (λ d k. next d)
        (result_times r part (λ d k. rw (next d) (uses_low c members bits same two x (suc g) d limit (low d k))))
      where
        next : (d : ℕ) → uses c members bits same two x g d + combined 1 (length (group c g members)) (λ j. x (g * c + j)) (weigh (group c g bits)) d
            ≡ uses c members bits same two x (suc g) d
        next = uses_on c members bits same two x g

  -- the steps: a nonempty part costs one, but the first
  module _ (some : (j : ℕ) → j < length members → 0 < get_or members j 0) (before : List Step) where
    abbrev nonempty : ℕ → ℕ
    nonempty g = sum_to g (λ e. sign (weigh (group c e bits)))

    part_sign : (g : ℕ) → sign (part_of p c members start g (weigh (group c g bits))) ≡ sign (weigh (group c g bits))
    part_sign g =
        entry_sign 1 (omega arith) (group c g members) _ (omega arith) own (weigh (group c g bits)) (part_number c members bits same two g)
      where
        own : (j : ℕ) → j < length (group c g members) → 0 < get_or (group c g members) j 0
        own j h =
            let inside = group_within c g (length members) j (omega (arith, length-group c g members)) in
            rw (get_d_group c g members j h) (some (g * c + j) inside)

    parts_value : (g : ℕ) → sign (parts p c members start bits before g).value ≡ sign (nonempty g)
    parts_value zero = refl
    parts_value (suc g) =
        let m = parts p c members start bits before g in
        let t : ℕ = weigh (group c g bits) in
        let y = part_of p c members start g t in
        let added = sign-add m.value y in
        let more = sign-add (nonempty g) (sign t) in
        omega (arith, (times_cost p m y).value, parts_value g, part_sign g, sign_sign t)

    parts_spent : (g : ℕ) → length (parts p c members start bits before g).steps + sign (nonempty g) ≡ length before + nonempty g
    parts_spent zero = omega arith
    parts_spent (suc g) =
        let m = parts p c members start bits before g in
        let y = part_of p c members start g (weigh (group c g bits)) in
        omega (arith, times_spent p m y, parts_value g, parts_value (suc g), part_sign g, parts_spent g)

    pub parts_count : (g : ℕ) → length (parts p c members start bits before g).steps ≡ length before + (nonempty g - 1)
    parts_count g = by_number (nonempty g) refl
      where
        by_number : (n : ℕ) → nonempty g ≡ n → length (parts p c members start bits before g).steps ≡ length before + (nonempty g - 1)
        by_number zero e = let s = parts_spent g in let z : sign (nonempty g) ≡ 0 = ap sign e in omega arith
        by_number (suc n) e = let s = parts_spent g in let z : sign (nonempty g) ≡ 1 = ap sign e in omega arith
