-- A list is judged member by member: it is fine exactly if each member is, the first that is refused is the answer, and at each turn of a loop the
-- verdict on the whole list is that on the members that are left.
use mathlib.Core.Path.{◌≡◌, refl, sym, ap, ap₂, ◌∙◌}
use mathlib.Core.List.{List, [], ◌∷◌}
use Prim.Native.Nat.{ℕ, zero, suc, ◌+◌, ◌≤◌, ◌<◌}
use native.Mathlib.Nat.{add-zero}
use native.Mathlib.Numerals.{add-one}
use native.Mathlib.Omega.{arith}
use lib.ListN.{length, get_or, drop, drop_of_length-le}
use lib.Seq.{drop-cons}
use Rattle.chain.specs.Verdict.{Verdict, fine, refused, ◌then◌, in_order}
use Rattle.chain.proofs.Rules.{then_fine, stop, pass}

-- a rule, and what is read past a list's end
module _ {A : Type 0} (rule : ℕ → A → Verdict) (d : A) where
  pub each_fine : (i : ℕ) (l : List A) → in_order rule i l ≡ fine → (k : ℕ) → k < length l → rule (i + k) (get_or l k d) ≡ fine
  each_fine i [] ok k h = absurd (omega arith)
  each_fine i (x ∷ l) ok zero h = rw add-zero (then_fine _ _ ok).0
  each_fine i (x ∷ l) ok (suc k) h =
      let e : suc i + k ≡ i + suc k = omega arith in
      rw (← e) (each_fine (suc i) l (then_fine _ _ ok).1 k (omega arith))

  pub fine_each : (i : ℕ) (l : List A) → ((k : ℕ) → k < length l → rule (i + k) (get_or l k d) ≡ fine) → in_order rule i l ≡ fine
  fine_each i [] h = refl
  fine_each i (x ∷ l) h =
      sym (pass _ _ fine (sym (rw add-zero at (h 0 (omega arith)))) (sym (fine_each (suc i) l (λ k g. later k (h (suc k) (omega arith))))))
    where
      later : (k : ℕ) → rule (i + suc k) (get_or l k d) ≡ fine → rule (suc i + k) (get_or l k d) ≡ fine
      later k ok =
          let e : suc i + k ≡ i + suc k = omega arith in
          rw e ok

  -- the first member that is refused
  pub first_refused : (i : ℕ) (l : List A) (k n s : ℕ) → k < length l → ((j : ℕ) → j < k → rule (i + j) (get_or l j d) ≡ fine)
      → rule (i + k) (get_or l k d) ≡ refused n s → in_order rule i l ≡ refused n s
  first_refused i [] k n s h before bad = absurd (omega arith)
  first_refused i (x ∷ l) zero n s h before bad = sym (stop _ _ n s (sym (rw add-zero at bad)))
  first_refused i (x ∷ l) (suc k) n s h before bad =
      let e : suc i + k ≡ i + suc k = omega arith in
      sym (pass _ _ _ (sym (rw add-zero at (before 0 (omega arith)))) (sym (first_refused (suc i) l k n s (omega arith) earlier (rw e bad))))
    where
      earlier : (j : ℕ) → j < k → rule (suc i + j) (get_or l j d) ≡ fine
      earlier j g =
          let e : suc i + j ≡ i + suc j = omega arith in
          rw e (before (suc j) (omega arith))

-- what is left to judge after i members
unfoldable pub left : {A : Type 0} → (ℕ → A → Verdict) → List A → ℕ → Verdict
left rule l i = in_order rule (i + 1) (drop i l)

pub judge_start_lem : {A : Type 0} (rule : ℕ → A → Verdict) (l : List A) → in_order rule 1 l ≡ left rule l 0
unfolding left
judge_start_lem rule l = refl

-- `w` is the verdict on the whole list
module _ {A : Type 0} (rule : ℕ → A → Verdict) (d : A) (l : List A) (i : ℕ) (w : Verdict) where
  next : i < length l → left rule l i ≡ (rule (i + 1) (get_or l i d) then left rule l (i + 1))
  unfolding left
  next h =
      ap (in_order rule (i + 1)) (drop-cons l i d h)
      ∙ ap (λ (v : Verdict). rule (i + 1) (get_or l i d) then v) (ap₂ (in_order rule) (sym (add-one (i + 1))) (ap (λ (k : ℕ). drop k l) (sym (add-one i))))

  pub judge_on : i < length l → fine ≡ rule (i + 1) (get_or l i d) → w ≡ left rule l i → w ≡ left rule l (i + 1)
  judge_on h ok e = e ∙ next h ∙ sym (pass _ _ _ ok refl)

  pub judge_bad : (n s : ℕ) → i < length l → refused n s ≡ rule (i + 1) (get_or l i d) → w ≡ left rule l i → refused n s ≡ w
  judge_bad n s h bad e = stop _ _ n s bad ∙ sym (e ∙ next h)

pub judge_end_lem : {A : Type 0} (rule : ℕ → A → Verdict) (l : List A) (i : ℕ) (w : Verdict) → length l ≤ i → w ≡ left rule l i → fine ≡ w
unfolding left
judge_end_lem rule l i w h e = sym (e ∙ rw (drop_of_length-le l h))
