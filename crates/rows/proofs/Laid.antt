-- The cells of a slice in which a list is laid: before it and behind it they are as they were, between they are the list's.
use mathlib.Core.Path.{◌≡◌, sym, ap, ◌∙◌}
use mathlib.Core.List.{List, ◌++◌}
use Prim.Native.Nat.{ℕ, ◌+◌, ◌-◌, ◌≤◌, ◌<◌}
use native.Mathlib.Omega.{arith}
use lib.ListN.{length, get_or, take, drop, get_or-append}
use lib.Seq.{length-take-le, get_or-take, get_or-drop, get_or-append-add}
use Rattle.chain.specs.Written.{laid}

module _ (at : ℕ) (t l : List ℕ) (room : at + length t ≤ length l) where
  front : length (take at l) ≡ at
  front = length-take-le at l (omega arith)

  -- from the list on
  rest : (k : ℕ) → get_or (laid at t l) (at + k) 0 ≡ get_or (t ++ drop (at + length t) l) k 0
  unfolding laid
  rest k =
      ap (λ (c : ℕ). get_or (laid at t l) (c + k) 0) (sym front) ∙ get_or-append-add (take at l) (t ++ drop (at + length t) l) k 0

  pub cell_before : (c : ℕ) → c < at → get_or (laid at t l) c 0 ≡ get_or l c 0
  unfolding laid
  cell_before c h = get_or-append (take at l) _ 0 c (omega (arith, front)) ∙ get_or-take at l c 0 h

  pub cell_within : (i : ℕ) → i < length t → get_or (laid at t l) (at + i) 0 ≡ get_or t i 0
  cell_within i h = rest i ∙ get_or-append t _ 0 i h

  pub cell_behind : (c : ℕ) → at + length t ≤ c → get_or (laid at t l) c 0 ≡ get_or l c 0
  cell_behind c h =
      let k : ℕ = c - (at + length t) in
      let q : at + (length t + k) ≡ c = omega arith in
      let r : at + length t + k ≡ c = omega arith in
      ap (λ (d : ℕ). get_or (laid at t l) d 0) (sym q)
      ∙ rest (length t + k)
      ∙ get_or-append-add t (drop (at + length t) l) k 0
      ∙ get_or-drop (at + length t) l k 0
      ∙ ap (λ (d : ℕ). get_or l d 0) r
