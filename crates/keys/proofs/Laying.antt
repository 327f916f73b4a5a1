-- The numbers of a weight laid from the heaviest on: what the slice will be in the end is what is left of them, laid over what the slice is.
use mathlib.Core.Path.{◌≡◌, sym, ap, ◌∙◌}
use mathlib.Core.List.{List, ◌∷◌}
use Prim.Native.Nat.{ℕ, suc, ◌+◌, ◌-◌, ◌^◌, ◌≤◌, ◌<◌}
use native.Mathlib.Omega.{arith}
use lib.ListN.{length, set, length-set}
use Rattle.chain.specs.Written.{laid}
use Rattle.chain.proofs.Written.{laid_nil, laid_on}
use Rattle.keys.specs.Inner.{members_of, WeightAsked, NumbersLaid}
use Rattle.keys.proofs.Members.{taken, passed}

module _ (to n weight r : ℕ) (old : List ℕ) where
  pub record MembersTo (w e i : ℕ) (s : List ℕ) : Type 0 where
    pub high : i ≤ n
    pub long : length s ≡ length old
    pub left : laid r (members_of to n weight) old ≡ laid e (members_of to i w) s
    pub end : r + length (members_of to n weight) ≡ e + length (members_of to i w)

  module _ (asked : WeightAsked old to n weight r) (w e i : ℕ) (s : List ℕ) (d : MembersTo w e i s) (some : 0 < i) where
    one : i ≡ suc (i - 1)
    one = omega arith

    module _ (own : ℕ) (is : own ≡ 2 ^ (i - 1)) where
      module _ (h : own ≤ w) where
        next : members_of to i w ≡ (to - 1 - (i - 1)) ∷ members_of to (i - 1) (w - own)
        next =
            ap (λ (k : ℕ). members_of to k w) one
            ∙ taken to (i - 1) w (omega (arith, is))
            ∙ ap (λ (k : ℕ). (to - 1 - (i - 1)) ∷ members_of to (i - 1) (w - k)) (sym is)

        pub members_room : e < length s
        members_room = omega (arith, asked.room, d.end, d.long, ap length next)

        pub members_on : MembersTo (w - own) (e + 1) (i - 1) (set s e (to - 1 - (i - 1)))
        members_on =
            record {
              high = omega (arith, d.high);
              long = length-set s e (to - 1 - (i - 1)) ∙ d.long;
              left = laid_on e (to - 1 - (i - 1)) (members_of to (i - 1) (w - own)) s (laid r (members_of to n weight) old) members_room
                  (d.left ∙ ap (λ (l : List ℕ). laid e l s) next);
              end = omega (arith, d.end, ap length next);
            }

      pub members_pass : w < own → MembersTo w e (i - 1) s
      members_pass h =
          let next : members_of to i w ≡ members_of to (i - 1) w = ap (λ (k : ℕ). members_of to k w) one ∙ passed to (i - 1) w (omega (arith, is)) in
          record {
            high = omega (arith, d.high);
            long = d.long;
            left = d.left ∙ ap (λ (l : List ℕ). laid e l s) next;
            end = omega (arith, d.end, ap length next);
          }

  pub members_all : (w e i : ℕ) (s : List ℕ) → MembersTo w e i s → i ≤ 0 → NumbersLaid r e (members_of to n weight) old s
  members_all w e i s d h =
      let none : i ≡ 0 = omega arith in
      record {
        are = sym (d.left ∙ rw none (laid_nil e s));
        end = sym (d.end ∙ rw none (omega arith));
      }
