-- A line grows field by field and the text line by line: one part more at each turn.
use mathlib.Core.Path.{◌≡◌, sym, ap, subst, ◌∙◌}
use mathlib.Core.List.{List, [], ◌∷◌, ◌++◌, append_assoc, append-nil}
use Prim.Native.Nat.{ℕ, ◌+◌, ◌≤◌, ◌<◌}
use native.Mathlib.Numerals.{add-one}
use native.Mathlib.Omega.{arith}
use lib.ListN.{length, set, length-append}
use Rattle.decimal.specs.Decimal.{refused_word, blank, newline, decimal}
use Rattle.digits.specs.Range.{list_to}
use Rattle.listing.specs.Listing.{more_fields, line_of, payslip_lines, chain_text, refused_text}
use Rattle.decimal.specs.Inner.{Put}
use Rattle.listing.specs.Inner.{SizesAsked}
use Rattle.decimal.proofs.Decimal.{decimal_short}
use Rattle.decimal.proofs.Putting.{put_none, put_more, put_one}

-- a part under another name
like : (at : ℕ) (s t l : List ℕ) (e : ℕ) (l' : List ℕ) → s ≡ t → Put at s l e l' → Put at t l e l'
like at s t l e l' q w = subst (λ (u : List ℕ). Put at u l e l') q w

-- a field more at the end of a line
fields_more : (l : List ℕ) (x : ℕ) → more_fields (l ++ x ∷ []) ≡ more_fields l ++ (blank ∷ decimal x)
fields_more [] x = append-nil (blank ∷ decimal x)
fields_more (y ∷ l) x =
    ap (λ (t : List ℕ). (blank ∷ decimal y) ++ t) (fields_more l x) ∙ sym (append_assoc (blank ∷ decimal y) (more_fields l) (blank ∷ decimal x))

-- a blank, and the number after it
pub put_blank : (at x : ℕ) (l : List ℕ) (e : ℕ) (l' : List ℕ) → at < length l → Put (at + 1) (decimal x) (set l at blank) e l'
    → Put at (blank ∷ decimal x) l e l'
put_blank at x l e l' h w =
    put_more at (blank ∷ []) l (at + 1) (set l at blank) (put_one at [] l at l (put_none at l) blank (omega arith)) (decimal x) e l' (omega arith) w

-- the amount of column c after those before it
pub put_amount : (at c : ℕ) (f : ℕ → ℕ) (l : List ℕ) (m : ℕ) (l' : List ℕ) (e : ℕ) (l'' : List ℕ) → at ≤ length l
    → Put at (more_fields (list_to c f)) l m l' → Put m (blank ∷ decimal (f c)) l' e l'' → Put at (more_fields (list_to (c + 1) f)) l e l''
put_amount at c f l m l' e l'' h w v =
    like at _ _ l e l''
    (sym (fields_more (list_to c f) (f c)) ∙ ap (λ (k : ℕ). more_fields (list_to k f)) (sym (add-one c)))
    (put_more at (more_fields (list_to c f)) l m l' w (blank ∷ decimal (f c)) e l'' h v)

-- two fields
pub put_two : (at x y : ℕ) (l : List ℕ) (m : ℕ) (l' : List ℕ) (e : ℕ) (l'' : List ℕ) → at ≤ length l
    → Put at (blank ∷ decimal x) l m l' → Put m (blank ∷ decimal y) l' e l'' → Put at (more_fields (x ∷ y ∷ [])) l e l''
put_two at x y l m l' e l'' h w v =
    like at _ _ l e l''
    (ap (λ (t : List ℕ). (blank ∷ decimal x) ++ t) (sym (append-nil (blank ∷ decimal y))))
    (put_more at (blank ∷ decimal x) l m l' w (blank ∷ decimal y) e l'' h v)

-- the sizes have few digits
pub sizes_short : (bytes p q n : ℕ) (text : List ℕ) → SizesAsked bytes p q n text
    → (length (decimal p) ≤ 2) × (length (decimal q) ≤ 2) × (length (decimal n) ≤ 5)
sizes_short bytes p q n text asked = (
  decimal_short 1 p (omega (arith, asked.sizes_low.p_low)),
  decimal_short 1 q (omega (arith, asked.sizes_low.q_low)),
  decimal_short 4 n (omega (arith, asked.n_low)),
)

-- a line: its first field, the others, and the newline
module _ (at x : ℕ) (r l : List ℕ) (m : ℕ) (l' : List ℕ) (e : ℕ) (l'' : List ℕ) (w : Put at (decimal x) l m l') (v : Put m (more_fields r) l' e l'') where
  pub put_line : e < length l → Put at (line_of x r) l (e + 1) (set l'' e newline)
  unfolding line_of
  put_line h =
      let a = w.place in
      let b = v.place in
      let both : Put at (decimal x ++ more_fields r) l e l'' = put_more at (decimal x) l m l' w (more_fields r) e l'' (omega arith) v in
      like at _ _ l (e + 1) (set l'' e newline) (append_assoc (decimal x) (more_fields r) (newline ∷ []))
      (put_one at (decimal x ++ more_fields r) l e l'' both newline (omega (arith, length-append (decimal x) (more_fields r))))

-- the line of payslip i after those before it
pub put_next : (at p i : ℕ) (f : ℕ → ℕ → ℕ) (l : List ℕ) (m : ℕ) (l' : List ℕ) (e : ℕ) (l'' : List ℕ) → at ≤ length l
    → Put at (payslip_lines p f i) l m l' → Put m (line_of (i + 1) (list_to p (f i))) l' e l'' → Put at (payslip_lines p f (i + 1)) l e l''
put_next at p i f l m l' e l'' h w v =
    let q = add-one i in
    like at _ _ l e l''
    (ap (λ (k : ℕ). payslip_lines p f i ++ line_of k (list_to p (f i))) q ∙ ap (payslip_lines p f) (sym q))
    (put_more at (payslip_lines p f i) l m l' w (line_of (i + 1) (list_to p (f i))) e l'' h v)

-- the line of the sizes, and those of the payslips
pub put_listing : (p q n : ℕ) (f : ℕ → ℕ → ℕ) (l : List ℕ) (m : ℕ) (l' : List ℕ) (e : ℕ) (l'' : List ℕ)
    → Put 0 (line_of p (q ∷ n ∷ [])) l m l' → Put m (payslip_lines p f q) l' e l'' → Put 0 (chain_text p q n f) l e l''
unfolding chain_text
put_listing p q n f l m l' e l'' w v = put_more 0 _ l m l' w _ e l'' (omega arith) v

-- the word, and the number's line
pub put_refusal : (k : ℕ) (l : List ℕ) (m : ℕ) (l' : List ℕ) (e : ℕ) (l'' : List ℕ) → Put 0 refused_word l m l' → Put m (decimal k) l' e l'' → e < length l'
    → Put 0 (refused_text k) l (e + 1) (set l'' e newline)
unfolding refused_text
put_refusal k l m l' e l'' w v h =
    put_more 0 refused_word l m l' w (line_of k []) (e + 1) (set l'' e newline) (omega arith) (put_line m k [] l' e l'' e l'' v (put_none e l'') h)
