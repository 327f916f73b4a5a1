-- What is said of the ceiling of method 3, by which a tariff bills (Req 04); proofs/Tariff.antt proves it of every sheet and every c that the method takes.
use Rattle.std.specs.Prelude.{◌≡◌, List, ℕ, ◌+◌, ◌-◌, ◌*◌, ◌≤◌, length}
use Rattle.digits.specs.Range.{sum_to}
use Rattle.groups.specs.Groups.{columns_used, group, group_count, input_count, inputs, table_steps}
use Rattle.quote.specs.ByMethod.{chain_of, ceiling}

-- the ceiling where the groups' tables take so many steps
abbrev pub ceiling_with : ℕ → ℕ → List ℕ → ℕ → ℕ → ℕ
ceiling_with p q amounts c tables =
    let w = input_count p q amounts in
    w - columns_used p q amounts + tables + q * (group_count c w - 1)

pub record Tariff (p q : ℕ) (amounts : List ℕ) (c : ℕ) : Type 0 where
  -- it has 2^g − g − 1 for each group, g being how many inputs the group has
  pub summed :
      let G = group_count c (input_count p q amounts) in
      ceiling p q amounts 3 c ≡ ceiling_with p q amounts c (sum_to G (λ i. table_steps (length (group c i (inputs p q amounts)))))
  -- without inputs it is 0
  pub none : input_count p q amounts ≡ 0 → ceiling p q amounts 3 c ≡ 0
  -- no chain compiled by the method exceeds it
  pub kept : length (chain_of p q amounts 3 c).steps ≤ ceiling p q amounts 3 c
  -- it is never above what it was before the request, when each of the G groups counted as a full one
  pub lowered :
      let G = group_count c (input_count p q amounts) in
      ceiling p q amounts 3 c ≤ ceiling_with p q amounts c (G * table_steps c)
