-- A payslip's bits form one number; cutting c bits off its front is taking the remainder and the quotient by 2^c, and a column is added at its end.
use mathlib.Core.Path.{◌≡◌, sym, ap, ap₂, subst, ◌∙◌}
use mathlib.Core.List.{List}
use Prim.Native.Nat.{ℕ, suc, ◌+◌, ◌-◌, ◌*◌, ◌/◌, ◌%◌, ◌^◌, ◌≤◌, ◌<◌}
use native.Mathlib.Decide.{dec_lt}
use native.Mathlib.Nat.{add_comm, add-mul, mul_comm, mul-add, mul-zero, mul-one, one-mul, suc-mul, mul_assoc, mul-le-mul_left}
use native.Mathlib.Nat.{mul-le-mul_right, div-one, mod-lt}
use native.Mathlib.Nat.{le_antisymm, div-lt_iff_lt-mul, le-div_iff_mul-le}
use native.Mathlib.Numerals.{add-one}
use native.Mathlib.Omega.{arith}
use lib.ListN.{length, get_or, set, get_or-eq_default}
use lib.Pow.{pow-add, pow_pos, pow_mono, high, low, shl_lt, shr-shr}
use Rattle.chain.specs.Written.{over, laid}
use Rattle.chain.proofs.Written.{laid_nil, laid_laid, over_laid}
use Rattle.digits.specs.Digits.{digit}
use Rattle.digits.specs.Range.{sum_to, list_to}
use Rattle.digits.proofs.Range.{sum_same, sum_split, sum-mul, sum_more}
use Rattle.digits.proofs.Vector.{vector_low, vector_own}
use Rattle.sheet.specs.Sheet.{amount}
use Rattle.methods.proofs.Paying.{over_none}
use Rattle.groups.specs.declared.Grouping.{Grouping}
use Rattle.cutting.specs.declared.Row.{Row}
use Rattle.methods.proofs.Filling.{fill_on}
use Rattle.digits.proofs.Listed.{length-list, list_same, list_split}
use Rattle.groups.specs.Groups.{column_bits, group, group_count, group_size, input_count, most_inputs, most_members, selection, weigh}
use Rattle.groups.specs.Inner.{numbers_of}
use Rattle.cutting.specs.Inner.{Cut, CutUp, Entered, number_at}
use Rattle.groups.proofs.Groups.{get_d_group, length-group, weigh_vector}
use Rattle.groups.proofs.Inputs.{get_d_over}
use Rattle.groups.proofs.Members.{amount_fits, selection_count, selection_two}
use Rattle.groups.proofs.Numbering.{filled_on}

-- the row is a word of 64 bits
module _ (x held : ℕ) (fits : x < 2 ^ 32) (short : held < most_members) where
  pub behind_low : x * 2 ^ held ≤ 2 ^ (32 + most_members)
  behind_low =
      let top : 2 ^ (32 + held) ≤ 2 ^ (32 + most_members) = pow_mono {i = 32 + held} {j = 32 + most_members} (omega arith) in
      let below : x * 2 ^ held < 2 ^ (32 + held) = shl_lt 32 held fits in
      omega arith

pub front_low : (c row : ℕ) → c ≤ most_members → row % 2 ^ c < 2 ^ most_members
front_low c row few =
    let small : 2 ^ c ≤ 2 ^ most_members = pow_mono {j = most_members} few in
    omega (arith, mod-lt row (pow_pos c))

-- the number of n bits, then of m more
number_more : (l : List ℕ) (s n m : ℕ) → number_at l s (n + m) ≡ number_at l (s + n) m * 2 ^ n + number_at l s n
number_more l s n m =
    sum_split n m (λ j. get_or l (s + j) 0 * 2 ^ (1 * j))
    ∙ ap (λ (x : ℕ). number_at l s n + x) (sum_same m _ _ (λ j h. shift j) ∙ sum-mul m (λ j. get_or l (s + n + j) 0 * 2 ^ (1 * j)) (2 ^ n))
    ∙ add_comm _ _
  where
    shift : (j : ℕ) → get_or l (s + (n + j)) 0 * 2 ^ (1 * (n + j)) ≡ get_or l (s + n + j) 0 * 2 ^ (1 * j) * 2 ^ n
    shift j =
        let at : s + (n + j) ≡ s + n + j = omega arith in
        let weight : 1 * (n + j) ≡ 1 * j + n = omega arith in
        rw (at, weight, pow-add 2 (1 * j) n) (sym (mul_assoc (get_or l (s + n + j) 0) (2 ^ (1 * j)) (2 ^ n)))

-- the number of a part is that of its group's bits
part_is : (l : List ℕ) (c g : ℕ) → weigh (group c g l) ≡ number_at l (g * c) (group_size c (length l) g)
part_is l c g =
    weigh_vector (group c g l)
    ∙ sum_same (length (group c g l)) _ _ (λ j h. ap (λ (x : ℕ). x * 2 ^ (1 * j)) (get_d_group c g l j h))
    ∙ ap (number_at l (g * c)) (length-group c g l)

module _ (l : List ℕ) (two : (j : ℕ) → get_or l j 0 < 2 ^ 1) where
  number_low : (s n : ℕ) → number_at l s n < 2 ^ n
  number_low s n = subst (λ (m : ℕ). number_at l s n < 2 ^ m) (one-mul n) (vector_low 1 (λ j. get_or l (s + j) 0) n (λ j h. two (s + j)))

  -- the first c of n bits, and the others
  module _ (s c n : ℕ) (h : c ≤ n) where
    number_split : number_at l s n ≡ number_at l (s + c) (n - c) * 2 ^ c + number_at l s c
    number_split =
        let e : n ≡ c + (n - c) = omega arith in
        ap (number_at l s) e ∙ number_more l s c (n - c)

    number_first : number_at l s n % 2 ^ c ≡ number_at l s c
    number_first = ap (λ (x : ℕ). x % 2 ^ c) number_split ∙ low _ c (number_low s c)

    number_rest : number_at l s n / 2 ^ c ≡ number_at l (s + c) (n - c)
    number_rest = ap (λ (x : ℕ). x / 2 ^ c) number_split ∙ high _ c (number_low s c)

  -- a part of the row is a part of the list
  cut_part_lem : (c g n j : ℕ) → suc j * c ≤ n → g * c + n ≤ length l → digit c (number_at l (g * c) n) j ≡ weigh (group c (g + j) l)
  cut_part_lem c g n j h within =
      let wide : c * j + c ≤ n = omega (arith, suc-mul j c, mul_comm c j) in
      let at : g * c + c * j ≡ (g + j) * c = omega (arith, add-mul g j c, mul_comm c j) in
      let full : c ≡ group_size c (length l) (g + j) = omega arith in
      ap (λ (x : ℕ). x % 2 ^ c) (number_rest (g * c) (c * j) n (omega arith))
      ∙ number_first (g * c + c * j) c (n - c * j) (omega arith)
      ∙ ap₂ (number_at l) at full
      ∙ sym (part_is l c (g + j))

-- how many groups w inputs make
groups_are : (c w n : ℕ) → 0 < c → n * c ≤ w + c - 1 → w + c - 1 < suc n * c → group_count c w ≡ n
groups_are c w n some low high = le_antisymm (omega (arith, (div-lt_iff_lt-mul some).1 high)) ((le-div_iff_mul-le some).1 low)

-- cutting part after part
pub cut_none : (c : ℕ) (row : Row) (cells : List ℕ) → Cut c row row cells cells
cut_none c row cells =
    let none : row.g - row.g ≡ 0 = omega arith in
    record {
      onward = omega arith;
      held_less = rw none (omega arith);
      rest = rw (none, mul-zero c) (sym (div-one row.bits));
      parts_are = rw none (sym (laid_nil row.g cells));
    }

module _ (c : ℕ) (row left : Row) (old cells : List ℕ) (e : Cut c row left old cells) where
  pub cut_on : (next : Row) (t : ℕ) → next.bits ≡ left.bits / 2 ^ c → next.held ≡ left.held - c → next.g ≡ left.g + 1
      → c ≤ left.held → t ≡ left.bits % 2 ^ c → left.g < length old → Cut c row next old (set cells left.g t)
  cut_on next t bits held g h is there =
      let m : ℕ = left.g - row.g in
      let some = e.onward in
      let more : next.g - row.g ≡ m + 1 = omega arith in
      let at : row.g + m ≡ left.g = omega arith in
      let further : c * (m + 1) ≡ c * m + c = omega (arith, mul-add c m 1, mul-one c) in
      record {
        onward = omega arith;
        held_less = rw more (omega (arith, e.held_less, add-mul m 1 c, one-mul c));
        rest = rw (more, further) (bits ∙ ap (λ (x : ℕ). x / 2 ^ c) e.rest ∙ shr-shr row.bits (c * m) c);
        parts_are =
            rw more
            (ap (λ (n : ℕ). set cells n t) (sym at)
            ∙ filled_on (digit c row.bits) row.g (m + 1) m t old cells (is ∙ ap (λ (x : ℕ). x % 2 ^ c) e.rest) (omega arith) (omega arith) e.parts_are);
      }

-- the columns of payslip i
module _ (s : Grouping) (amounts : List ℕ) (i : ℕ) where
  abbrev own : List ℕ
  own = selection s.p s.q amounts i

  abbrev width : ℕ → ℕ
  width = column_bits s.p s.q amounts

  abbrev w : ℕ
  w = input_count s.p s.q amounts

  two : (j : ℕ) → get_or own j 0 < 2 ^ 1
  two j = by_place (dec_lt j (length own))
    where
      by_place : Dec (j < length own) → get_or own j 0 < 2 ^ 1
      by_place (yes lt) = selection_two s.p s.q amounts i j lt
      by_place (no ge) = rw (get_or-eq_default own 0 {n = j} (omega arith)) (omega arith)

  -- a column's bits are its amount
  column_number : (col : ℕ) → i < s.q → col < s.p → number_at own (sum_to col width) (width col) ≡ amount s.p amounts i col
  unfolding selection
  column_number col h less =
      let n : ℕ = width col in
      let bit : ℕ → ℕ → ℕ = λ col j. digit 1 (amount s.p amounts i col) j in
      sum_same n _ _ (λ j k. ap (λ (x : ℕ). x * 2 ^ (1 * j)) (get_d_over width bit s.p col j less k))
      ∙ vector_own 1 (amount s.p amounts i col) n (rw (one-mul n) (amount_fits s.p s.q amounts i col h))

  pub entered_none : (row : Row) (cells : List ℕ) → row.bits ≡ 0 → row.held ≡ 0 → row.g ≡ 0 → 1 ≤ s.c → Entered s amounts i 0 row cells cells
  entered_none row cells bits held g some =
      record { place = rw (held, g) (omega arith); short = omega arith; waiting = rw held bits; parts_are = rw g (over_none cells) }

  module _ (n : ℕ) (row : Row) (old cells : List ℕ) (e : Entered s amounts i n row old cells) where
    pub entered_end : n ≤ s.p → s.p ≤ n → Entered s amounts i s.p row old cells
    entered_end h k = let last : n ≡ s.p = omega arith in subst (λ (m : ℕ). Entered s amounts i m row old cells) last e

    pub row_low : s.c ≤ most_members → row.bits < 2 ^ most_members
    row_low few =
        let small : 2 ^ row.held ≤ 2 ^ most_members = pow_mono {j = most_members} (omega (arith, e.short)) in
        rw e.waiting (omega (arith, number_low own two (row.g * s.c) row.held))

    -- there is a cell for each part of the row with the next column
    pub row_fits : (b : ℕ) → n < s.p → b ≡ width n → w ≤ most_inputs → most_inputs ≤ length old → length cells ≡ length old
        → row.g + (row.held + b) ≤ length cells
    row_fits b less bits few room same =
        let short = e.short in
        let wide : row.g * 1 ≤ row.g * s.c = mul-le-mul_left row.g (omega arith) in
        omega (arith, e.place, mul-one row.g, sum_more width (suc n) s.p less)

    -- the next column: x its amount with the weight of the row's end, and b its bits
    module _ (y x b : ℕ) (less : n < s.p) (h : i < s.q) (is : y ≡ amount s.p amounts i n) (weighed : x ≡ y * 2 ^ row.held) (bits : b ≡ width n) where
      row_is : row.bits + x ≡ number_at own (row.g * s.c) (row.held + b)
      row_is =
          let at : row.g * s.c + row.held ≡ sum_to n width = omega (arith, e.place) in
          let column : number_at own (row.g * s.c + row.held) b ≡ y = ap₂ (number_at own) at bits ∙ column_number n h less ∙ sym is in
          add_comm row.bits x
          ∙ ap₂ ◌+◌ (weighed ∙ ap (λ (z : ℕ). z * 2 ^ row.held) (sym column)) e.waiting
          ∙ sym (number_more own (row.g * s.c) row.held b)

      within : row.held + b + row.g * s.c ≤ length own
      within = omega (arith, e.place, bits, selection_count s.p s.q amounts i, sum_more width (suc n) s.p less)

      module _ (wide left : Row) (cells' : List ℕ) (all-bits : wide.bits ≡ row.bits + x) (all_held : wide.held ≡ row.held + b) (same-g : wide.g ≡ row.g)
          (k : CutUp s.c wide left cells cells') where
        abbrev m : ℕ
        m = left.g - wide.g

        wide_is : wide.bits ≡ number_at own (wide.g * s.c) wide.held
        wide_is = rw (all_held, same-g) (all-bits ∙ row_is)

        cut_at : wide.g * s.c + s.c * m ≡ left.g * s.c
        cut_at =
            let onward = k.cut.onward in
            let all : wide.g + m ≡ left.g = omega arith in
            omega (arith, ap (λ (z : ℕ). z * s.c) all, add-mul wide.g m s.c, mul_comm s.c m)

        each : (j : ℕ) → j < m → digit s.c wide.bits j ≡ weigh (group s.c (wide.g + j) own)
        each j less' =
            let long : suc j * s.c ≤ m * s.c = mul-le-mul_right s.c less' in
            let there : wide.held + wide.g * s.c ≤ length own = rw (all_held, same-g) within in
            ap (λ (z : ℕ). digit s.c z j) wide_is
            ∙ cut_part_lem own two s.c wide.g wide.held j (omega (arith, k.cut.held_less)) (omega arith)

        entered_cells : cells' ≡ over (numbers_of s.c left.g own) old
        entered_cells =
            let onward = k.cut.onward in
            let all : wide.g + m ≡ left.g = omega arith in
            let number : ℕ → ℕ = λ g. weigh (group s.c g own) in
            let first : List ℕ = list_to wide.g number in
            let more : List ℕ = list_to m (λ j. number (wide.g + j)) in
            let over_is : cells ≡ laid 0 first old = e.parts_are ∙ over_laid _ old ∙ ap (λ (z : ℕ). laid 0 (list_to z number) old) (sym same-g) in
            k.cut.parts_are
            ∙ ap₂ (laid wide.g) (list_same m _ _ each) over_is
            ∙ laid_laid 0 wide.g first more old (omega (arith, length-list wide.g number)) (omega arith)
            ∙ ap (λ (l : List ℕ). laid 0 l old) (sym (list_split wide.g m number) ∙ ap (λ (z : ℕ). list_to z number) all)
            ∙ sym (over_laid (list_to left.g number) old)

        pub entered_on : Entered s amounts i (n + 1) left old cells'
        entered_on =
            let onward = k.cut.onward in
            let less = k.cut.held_less in
            let turned = mul_comm s.c m in
            let at = cut_at in
            let all : (wide.g + m) * s.c ≡ left.g * s.c = ap (λ (z : ℕ). z * s.c) (omega arith) in
            let left_is : wide.held - s.c * m ≡ left.held = omega arith in
            let before : wide.g * s.c ≡ row.g * s.c = ap (λ (z : ℕ). z * s.c) same-g in
            record {
              place = rw (add-one n) (omega (arith, e.place, bits));
              short = k.short;
              waiting =
                  k.cut.rest
                  ∙ ap (λ (z : ℕ). z / 2 ^ (s.c * m)) wide_is
                  ∙ number_rest own two (wide.g * s.c) (s.c * m) wide.held (omega arith)
                  ∙ ap₂ (number_at own) cut_at left_is;
              parts_are = entered_cells;
            }

  -- all columns are entered: what is left is the last part, if anything is
  module _ (row : Row) (old cells : List ℕ) (e : Entered s amounts i s.p row old cells) (G : s.groups ≡ group_count s.c w) where
    pub row_end : row.held ≡ 0 → cells ≡ over (numbers_of s.c s.groups own) old
    row_end none =
        let short = e.short in
        let place = e.place in
        let all : group_count s.c w ≡ row.g = groups_are s.c w row.g (omega arith) (omega arith) (omega (arith, suc-mul row.g s.c)) in
        rw (G, all) e.parts_are

    module _ (some : row.held ≡ 0 → ⊥) (few : w ≤ most_inputs) where
      pub part_cell : row.g < most_inputs
      part_cell =
          let short = e.short in
          let wide : row.g * 1 ≤ row.g * s.c = mul-le-mul_left row.g (omega arith) in
          omega (arith, e.place, mul-one row.g)

      pub part_last : most_inputs ≤ length old → set cells row.g row.bits ≡ over (numbers_of s.c s.groups own) old
      part_last room =
          let short = e.short in
          let place = e.place in
          let g : ℕ = row.g in
          let number : ℕ → ℕ = λ g. weigh (group s.c g own) in
          let inside = part_cell in
          let next : (g + 1) * s.c ≡ g * s.c + s.c = omega (arith, add-mul g 1 s.c, one-mul s.c) in
          let all : group_count s.c w ≡ g + 1 = groups_are s.c w (g + 1) (omega arith) (omega arith) (omega (arith, suc-mul (g + 1) s.c)) in
          let size : row.held ≡ group_size s.c (length own) g = omega (arith, selection_count s.p s.q amounts i) in
          let is : row.bits ≡ number g = e.waiting ∙ ap (number_at own (g * s.c)) size ∙ sym (part_is own s.c g) in
          rw (G, all) (fill_on number old most_inputs g row.bits cells inside room is e.parts_are)
