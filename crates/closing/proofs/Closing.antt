-- A level of outputs closed by three calls: the clumps' rows transposed, the overflow's rows transposed, and both multiplied. The rows that are read
-- and the values stand where no call before has written.
use mathlib.Core.Path.{◌≡◌, refl, sym, ap, ap₂, subst, ◌∙◌}
use mathlib.Core.List.{List, [], ◌++◌}
use Prim.Native.Nat.{ℕ, ◌+◌, ◌*◌, ◌≤◌, ◌<◌}
use native.Mathlib.Omega.{arith}
use lib.ListN.{length, get_or}
use lib.Seq.{slice}
use Rattle.chain.specs.Chain.{Chain, pick}
use Rattle.digits.proofs.Listed.{get_d_list, length-list, list_same}
use Rattle.products.specs.Inner.{steps_in}
use Rattle.products.specs.declared.Progress.{Progress}
use Rattle.clumps.specs.Lists.{having}
use Rattle.clumps.specs.Levels.{products}
use Rattle.rows.specs.Inner.{members_at, row_at, rows_at, Formed, Rising, TransposeAsked, Transposed}
use Rattle.rows.proofs.Lists.{slice_same}
use Rattle.rows.proofs.Rows.{place_above, row_is, row_kept, rows_kept, having_rises}
use Rattle.row_products.specs.Inner.{joined, Done, JoinAsked}
use Rattle.row_products.specs.declared.Problem.{Problem}
use Rattle.row_products.specs.declared.Joint.{Joint}
use Rattle.opening.specs.declared.Opened.{Opened}
use Rattle.closing.proofs.Places.{places_at, steps_kept, so_far_kept}
use Rattle.closing.specs.Inner.{closed_by, CloseAsked}

module _ (p : ℕ) (s : List ℕ) (t : Problem) (o : Opened) (to : ℕ) (done : Progress) (asked : CloseAsked p s t o to done) where
  abbrev at : ℕ
  at = o.made + o.k

  clumps_above : o.clumps + o.k + 1 ≤ get_or s (o.clumps + o.k) 0
  clumps_above = place_above s o.clumps o.k _ asked.clumps_formed o.k (omega arith)

  rest_above : o.rest + t.n + 1 ≤ get_or s (o.rest + t.n) 0
  rest_above = place_above s o.rest t.n _ asked.rest_formed t.n (omega arith)

  pub clumps_asked : TransposeAsked s o.clumps o.k t.m at
  clumps_asked =
      record {
        formed = asked.clumps_formed;
        rising = asked.clumps_rising;
        below = omega (arith, asked.clumps_before);
        room = omega (arith, asked.room, asked.clumps_formed.first);
        fits = asked.small;
      }

  module _ (rest : ℕ) (s1 : List ℕ) (turned : Transposed o.clumps o.k t.m at rest s s1) where
    size1 : length s1 ≡ length s
    size1 = turned.laid.apart.size

    same1 : (c : ℕ) → c < at → get_or s1 c 0 ≡ get_or s c 0
    same1 = turned.laid.apart.before

    end1 : rest ≡ at + t.m + 1 + members_at s o.clumps o.k
    end1 = omega (arith, turned.end, asked.clumps_formed.first)

    rest1 : Formed s1 o.rest t.n (get_or s (o.rest + t.n) 0) × (rows_at s1 o.rest t.n ≡ rows_at s o.rest t.n)
    rest1 =
        rows_kept s o.rest t.n _ asked.rest_formed s1 (λ c h g. same1 c (omega (arith, asked.rest_before, clumps_above, asked.clumps_before)))
        (omega (arith, asked.rest_formed.inside, size1))

    rest_row : (i : ℕ) → i < t.n → row_at s1 o.rest i ≡ row_at s o.rest i
    rest_row =
        row_kept s o.rest t.n _ asked.rest_formed s1 (λ c h g. same1 c (omega (arith, asked.rest_before, clumps_above, asked.clumps_before)))
        (omega (arith, asked.rest_formed.inside, size1))

    pub rest_asked : TransposeAsked s1 o.rest t.n t.m rest
    rest_asked =
        record {
          formed = record { first = rest1.0.first; rises = rest1.0.rises; last = refl; inside = omega (arith, rest1.0.last, rest1.0.inside) };
          rising = λ i h. subst (Rising t.m) (sym (rest_row i h)) (asked.rest_rising i h);
          below = omega (arith, rest1.0.last, asked.rest_before, clumps_above, asked.clumps_before, end1);
          room = omega (arith, rest1.0.last, rest1.0.first, end1, asked.room, size1, rest_above);
          fits = rw size1 asked.small;
        }

    module _ (e : ℕ) (s2 : List ℕ) (over : Transposed o.rest t.n t.m rest e s1 s2) where
      abbrev joint : Joint
      joint = record { clumps = at; made = o.made; k = o.k; rest = rest; ins = t.ins; n = t.n; m = t.m }

      size2 : length s2 ≡ length s
      size2 = over.laid.apart.size ∙ size1

      same2 : (c : ℕ) → c < rest → get_or s2 c 0 ≡ get_or s1 c 0
      same2 = over.laid.apart.before

      both : (c : ℕ) → c < at → get_or s2 c 0 ≡ get_or s c 0
      both c h = same2 c (omega (arith, end1)) ∙ same1 c h

      -- the clumps of each output
      clump_rows1 : Formed s1 at t.m rest
      clump_rows1 = rw (length-list t.m (having (rows_at s o.clumps o.k))) at turned.laid.formed

      clump_rows2 : Formed s2 at t.m rest × (rows_at s2 at t.m ≡ rows_at s1 at t.m)
      clump_rows2 = rows_kept s1 at t.m rest clump_rows1 s2 (λ c h g. same2 c g) (omega (arith, clump_rows1.inside, over.laid.apart.size))

      clump_row : (j : ℕ) → j < t.m → row_at s2 at j ≡ having (rows_at s o.clumps o.k) j
      clump_row j h =
          sym (get_d_list t.m (row_at s2 at) [] j h)
          ∙ ap (λ (r : List (List ℕ)). get_or r j [])
          (clump_rows2.1 ∙ ap (rows_at s1 at) (sym (length-list t.m (having (rows_at s o.clumps o.k)))) ∙ turned.laid.are)
          ∙ get_d_list t.m (having (rows_at s o.clumps o.k)) [] j h

      -- the overflow of each output
      rest_rows2 : Formed s2 rest t.m e
      rest_rows2 = rw (length-list t.m (having (rows_at s1 o.rest t.n))) at over.laid.formed

      over_row : (j : ℕ) → j < t.m → row_at s2 rest j ≡ having (rows_at s o.rest t.n) j
      over_row j h =
          sym (get_d_list t.m (row_at s2 rest) [] j h)
          ∙ ap (λ (r : List (List ℕ)). get_or r j []) (ap (rows_at s2 rest) (sym (length-list t.m (having (rows_at s1 o.rest t.n)))) ∙ over.laid.are)
          ∙ get_d_list t.m (having (rows_at s1 o.rest t.n)) [] j h
          ∙ ap (λ (r : List (List ℕ)). having r j) rest1.1

      own_end : {a x : ℕ} → Formed s2 a t.m x → Formed s2 a t.m (get_or s2 (a + t.m) 0)
      own_end f = record { first = f.first; rises = f.rises; last = refl; inside = omega (arith, f.last, f.inside) }

      front_same : (c : ℕ) → c < 2 * done.steps → get_or s2 c 0 ≡ get_or s c 0
      front_same c h = both c (omega (arith, asked.front.enough, asked.values_behind, asked.values_before, asked.rest_at, asked.rest_before, rest_above, clumps_above, asked.clumps_before))

      pub join_asked : JoinAsked p s2 joint to done
      join_asked =
          record {
            clump_rows_lem = places_at s2 at t.m o.k (own_end clump_rows2.0)
                (λ j h. subst (Rising o.k) (sym (clump_row j h)) (subst (λ (x : ℕ). Rising x (having (rows_at s o.clumps o.k) j)) (row_is s o.clumps o.k).1 (having_rises (rows_at s o.clumps o.k) j)));
            rest_rows = places_at s2 rest t.m t.n (own_end rest_rows2)
                (λ j h. subst (Rising t.n) (sym (over_row j h)) (subst (λ (x : ℕ). Rising x (having (rows_at s o.rest t.n) j)) (row_is s o.rest t.n).1 (having_rises (rows_at s o.rest t.n) j)));
            clumps_behind = omega (arith, asked.rest_at, asked.rest_before, rest_above, clumps_above, asked.clumps_before);
            rest_behind = omega (arith, asked.rest_at, asked.rest_before, rest_above, clumps_above, asked.clumps_before, end1);
            made_behind = omega (arith, asked.rest_at, asked.rest_before, rest_above, clumps_above, asked.clumps_before);
            made_inside = omega (arith, asked.room, size2);
            values_behind = asked.values_behind;
            values_before = asked.values_before;
            front =
                record {
                  so_far = so_far_kept s s2 done asked.front.so_far size2 front_same;
                  enough = omega (arith, asked.front.enough, clump_rows2.0.last, rest_rows2.last, over.end, rest1.0.last, rest1.0.first, end1);
                  columns = asked.front.columns;
                };
          }

      joined_is : joined s2 joint ≡ closed_by s t o
      joined_is =
          list_same t.m _ _ (λ j h.
          ap₂ ◌++◌ (ap₂ pick made_same (clump_row j h)) (ap₂ pick ins_same (over_row j h)))
        where
          made_same : slice o.made (o.made + o.k) s2 ≡ slice o.made (o.made + o.k) s
          made_same = slice_same o.made (o.made + o.k) s2 s (omega (arith, asked.room, size2)) (omega (arith, asked.room)) (λ c h g. both c g)

          ins_same : slice t.ins (t.ins + t.n) s2 ≡ slice t.ins (t.ins + t.n) s
          ins_same =
              slice_same t.ins (t.ins + t.n) s2 s (omega (arith, asked.room, size2, low)) (omega (arith, asked.room, low)) (λ c h g. both c (omega (arith, low)))
            where
              low : t.ins + t.n ≤ at
              low = omega (arith, asked.values_before, asked.rest_at, asked.rest_before, rest_above, clumps_above, asked.clumps_before)

      pub outputs_closed : (r : Progress) (s3 : List ℕ) → Done to r (products p (joined s2 joint) (steps_in s2 done.steps)) s2 s3
          → Done to r (products p (closed_by s t o) (steps_in s done.steps)) s s3
      outputs_closed r s3 d = from_start (subst (λ chain. Done to r chain s2 s3) chain_is d)
        where
          chain_is : products p (joined s2 joint) (steps_in s2 done.steps) ≡ products p (closed_by s t o) (steps_in s done.steps)
          chain_is = ap₂ (products p) joined_is (steps_kept s s2 done asked.front.so_far size2 front_same)

          from_start : {chain : Chain} → Done to r chain s2 s3 → Done to r chain s s3
          from_start f =
              record {
                size = f.size ∙ size2;
                steps = f.steps;
                count = f.count;
                squarings = f.squarings;
                kept = λ c h g. f.kept c h g ∙ both c (omega (arith, asked.rest_at, asked.rest_before, rest_above, clumps_above, asked.clumps_before));
                outputs = f.outputs;
              }
