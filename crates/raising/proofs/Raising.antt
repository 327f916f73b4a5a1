-- A row raised, one cell a turn: the row stands before the cells that are written, so the next number is the one that it was.
use mathlib.Core.Path.{◌≡◌, sym, ap, ◌∙◌}
use mathlib.Core.List.{List, map}
use Prim.Native.Nat.{ℕ, ◌+◌, ◌-◌, ◌≤◌, ◌<◌}
use native.Mathlib.Omega.{arith}
use lib.ListN.{length, get_or, set}
use lib.Seq.{slice}
use Rattle.digits.specs.Range.{list_to}
use Rattle.digits.proofs.Listed.{length-list, get_d_list}
use Rattle.clumps.proofs.Lists.{map-list}
use Rattle.rows.proofs.Lists.{slice_is}
use Rattle.cuts.proofs.Laying.{Laid, lay_more}
use Rattle.raising.specs.Inner.{RowAsked, RowRaised}

module _ (old : List ℕ) (from to k r : ℕ) where
  abbrev source : ℕ → ℕ
  source n = get_or old (from + n) 0

  abbrev raised : ℕ → ℕ
  raised n = k + source n

  pub record RaisedTo (e i : ℕ) (s : List ℕ) : Type 0 where
    pub after : from ≤ i
    pub within : i ≤ to
    pub at : e ≡ r + (i - from)
    pub laid : Laid raised r old e s

  module _ (asked : RowAsked old from to k r) where
    module _ (e i : ℕ) (s : List ℕ) (d : RaisedTo e i s) where
      pub raise_room : i < to → (e < length s) × (i < length s)
      raise_room h =
          (omega (arith, d.at, d.laid.apart.size, asked.room, d.after), omega (arith, d.laid.apart.size, asked.before, asked.room))

      next : i < to → get_or s i 0 ≡ get_or old i 0
      next h = d.laid.apart.before i (omega (arith, asked.before))

      pub raise_more : i < to → RaisedTo (e + 1) (i + 1) (set s e (k + get_or s i 0))
      raise_more h =
          let q : i ≡ from + (e - r) = omega (arith, d.at, d.after) in
          record {
            after = omega (arith, d.after);
            within = omega arith;
            at = omega (arith, d.at, d.after);
            laid =
                lay_more raised r old e (k + get_or s i 0) s d.laid (omega (arith, raise_room h, d.laid.apart.size))
                (ap (λ (x : ℕ). k + x) (next h) ∙ ap (λ (c : ℕ). k + get_or old c 0) q);
          }

      pub raise_all : to ≤ i → RowRaised from to k r e old s
      raise_all h =
          let long : e - r ≡ to - from = omega (arith, d.at, d.within) in
          record {
            apart = d.laid.apart;
            end = omega (arith, d.at, d.within);
            are = d.laid.are ∙ ap (λ (n : ℕ). list_to n raised) long ∙ sym (ap (map (λ i. k + i)) whole ∙ map-list (λ i. k + i) (to - from) source);
          }
        where
          whole : slice from to old ≡ list_to (to - from) source
          whole =
              slice_is from to old (list_to (to - from) source) (omega (arith, asked.order, asked.before, asked.room)) (sym (length-list (to - from) source))
              (λ n g. sym (get_d_list (to - from) source 0 n (omega (arith, length-list (to - from) source))))
