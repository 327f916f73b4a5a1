-- Numbers laid from a cell on, one a turn: those so far stand there, and no other cell changed. A copy lays the numbers of other cells, all at once.
use mathlib.Core.Path.{◌≡◌, refl, sym, ap, ◌∙◌}
use mathlib.Core.List.{List, [], ◌∷◌, ◌++◌}
use Prim.Native.Nat.{ℕ, suc, ◌+◌, ◌-◌, ◌≤◌, ◌<◌}
use native.Mathlib.Omega.{arith}
use lib.ListN.{length, get_or, set, length-set}
use lib.Seq.{slice, slice_empty, length-slice, get_or-set_other}
use Rattle.digits.specs.Range.{list_to}
use Rattle.rows.specs.Inner.{Apart}
use Rattle.rows.proofs.Lists.{slice_cell, slice_is, slice_set}
use Rattle.cuts.specs.Inner.{CopyAsked, Copied}

module _ (f : ℕ → ℕ) (r : ℕ) (old : List ℕ) where
  pub record Laid (e : ℕ) (s : List ℕ) : Type 0 where
    pub after : r ≤ e
    pub apart : Apart r e old s
    pub are : slice r e s ≡ list_to (e - r) f

  pub lay_none : Laid r old
  lay_none =
      let none : r - r ≡ 0 = omega arith in
      record {
        after = omega arith;
        apart = record { size = refl; before = λ c h. refl; behind = λ c h. refl };
        are = slice_empty r old ∙ sym (ap (λ (n : ℕ). list_to n f) none);
      }

  pub lay_more : (e x : ℕ) (s : List ℕ) → Laid e s → e < length old → x ≡ f (e - r) → Laid (e + 1) (set s e x)
  lay_more e x s d h is =
      let next : e + 1 - r ≡ suc (e - r) = omega (arith, d.after) in
      record {
        after = omega (arith, d.after);
        apart =
            record {
              size = length-set s e x ∙ d.apart.size;
              before = λ c g. get_or-set_other s e c x 0 (λ q. omega (arith, d.after)) ∙ d.apart.before c g;
              behind = λ c g. get_or-set_other s e c x 0 (λ q. omega arith) ∙ d.apart.behind c (omega arith);
            };
        are =
            slice_set r e x s d.after (omega (arith, d.apart.size))
            ∙ ap (λ (l : List ℕ). l ++ x ∷ []) d.are
            ∙ ap (λ (y : ℕ). list_to (e - r) f ++ y ∷ []) is
            ∙ sym (ap (λ (n : ℕ). list_to n f) next);
      }

-- cells that stand at r on as they stood at others, while no other cell changed, are copied
pub copied : (old new : List ℕ) (from to r : ℕ) → CopyAsked old from to r → length new ≡ length old
    → ((k : ℕ) → r ≤ k → k < r + (to - from) → get_or new k 0 ≡ get_or old (from + (k - r)) 0)
    → ((k : ℕ) → k < r → get_or new k 0 ≡ get_or old k 0) → ((k : ℕ) → r + (to - from) ≤ k → get_or new k 0 ≡ get_or old k 0)
    → Copied from to r (r + (to - from)) old new
copied old new from to r asked size are before behind =
    record {
      apart = record { size = size; before = before; behind = behind };
      end = refl;
      are =
          slice_is r (r + (to - from)) new (slice from to old) (omega (arith, asked.room)) (omega (arith, long))
          (λ i g. are (r + i) (omega arith) (omega (arith, long)) ∙ back i ∙ sym (slice_cell from to old i (omega (arith, long))));
    }
  where
    long : length (slice from to old) ≡ to - from
    long = length-slice from to old asked.inside

    back : (i : ℕ) → get_or old (from + (r + i - r)) 0 ≡ get_or old (from + i) 0
    back i = let q : r + i - r ≡ i = omega arith in ap (λ (c : ℕ). get_or old (from + c) 0) q
