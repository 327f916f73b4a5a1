-- The chain of an accepted sheet is legal and makes the sheet (`Right`), and edition 1 holds every legal chain: from that each call accepts what the one before left.
use mathlib.Core.Path.{◌≡◌, sym, ap, subst, ◌∙◌}
use mathlib.Core.List.{List}
use Prim.Native.Nat.{ℕ, ◌+◌, ◌*◌, ◌≤◌, ◌<◌}
use native.Mathlib.Omega.{arith}
use lib.ListN.{length, get_or}
use Rattle.chain.specs.Verdict.{fine}
use Rattle.chain.specs.Chain.{Chain, most_amount, most_steps, Legal, pick}
use Rattle.chain.proofs.Rules.{pass, refuse_no, or_none, lt_no}
use Rattle.chain.proofs.Sizes.{Sizes}
use Rattle.chain.proofs.Limits.{outputs_low}
use Rattle.chain.proofs.Legal.{parts_legal, parts_chain}
use Rattle.residue.specs.Residue.{figure}
use Rattle.verify.specs.Verify.{scratch_size, verify_rule}
use Rattle.verify.proofs.Passing.{Passing, passes_verify}
use Rattle.run.specs.Run.{residues, run_rule}
use Rattle.run.proofs.Runnable.{runs_fine}
use Rattle.run.proofs.Residues.{figure_law}
use Rattle.layout.specs.Layout.{edition1}
use Rattle.layout.specs.File.{byte_count, file_of, Held, write_rule, read_rule}
use Rattle.layout.proofs.ReadingBack.{ReadBack}
use Rattle.quote.specs.ByMethod.{method_of, chain_of, count, ceiling}
use Rattle.compile.specs.Compile.{accepted_rule, compile_rule}
use Rattle.compile.proofs.Fits.{Accepted, accepted}
use Rattle.methods.proofs.Right.{Right}
use Rattle.quote.proofs.Right.{compiled_right}
use Rattle.path.proofs.Demand2.{legal_held, legal_reads, legal_gives}

-- what is promised of the chain c of an accepted sheet, with n its count and most its ceiling
pub record Promised (p q : ℕ) (amounts : List ℕ) (method k : ℕ) (c : Chain) (n most : ℕ) : Type 0 where
  -- compile, write and read succeed where the lent slices are long enough, and reading gives the chain
  pub compiles : (pairs_lent outputs_lent : ℕ) → n ≤ pairs_lent → q ≤ outputs_lent → compile_rule p q amounts method k pairs_lent outputs_lent ≡ fine
  pub writes : (bytes_lent : ℕ) → byte_count edition1 p q n ≤ bytes_lent → write_rule edition1 p c.steps c.outputs bytes_lent ≡ fine
  pub reads : (pairs_lent outputs_lent : ℕ) → n ≤ pairs_lent → q ≤ outputs_lent
      → read_rule edition1 (file_of edition1 p c.steps c.outputs) pairs_lent outputs_lent ≡ fine
  pub read_back : ReadBack edition1 p c.steps c.outputs (file_of edition1 p c.steps c.outputs)
  -- the check passes
  pub passes : (scratch : ℕ) → scratch_size p n ≤ scratch → verify_rule p c.steps c.outputs amounts scratch ≡ fine
  -- the run succeeds for every modulus from 1 on and every list of bases below it, and its figures are the products of powers
  pub runs : (m : ℕ) (bases : List ℕ) → 0 < m → length bases ≡ p → ((d : ℕ) → d < p → get_or bases d 0 < m)
      → (room places : ℕ) → p + n < room → q ≤ places
      → run_rule p c.steps c.outputs m bases room places ≡ fine
  pub figures : (m : ℕ) (bases : List ℕ) → 0 < m → length bases ≡ p → ((d : ℕ) → d < p → get_or bases d 0 < m)
      → (i : ℕ) → i < q → get_or (pick (residues m bases c.steps) c.outputs) i 0 ≡ figure p m bases amounts i
  -- the multiplications are the steps, which are as many as the count, and that keeps to the ceiling
  pub multiplications : length c.steps ≡ n
  pub payslips : length c.outputs ≡ q
  pub limited : n ≤ most

module _ (p q : ℕ) (amounts : List ℕ) (method k : ℕ) (low : (j : ℕ) → get_or amounts j 0 ≤ most_amount) (ok : accepted_rule p q amounts method k ≡ fine) where
  abbrev c : Chain
  c = chain_of p q amounts method k

  fits : Accepted p q amounts method k
  fits = accepted p q amounts method k ok

  right : Right p q amounts (method_of p q amounts method k)
  right = compiled_right p q amounts method k low fits.ranges.fits

  sizes : Sizes p (length c.outputs)
  sizes = subst (λ (n : ℕ). Sizes p n) (sym right.outputs) fits.ranges.sizes

  few : length c.steps ≤ most_steps
  few = omega (arith, right.counted, fits.short)

  legal : Legal p c.steps c.outputs
  legal =
      parts_legal p c.steps c.outputs
      (record { sizes = sizes; few = few; chain = parts_chain p c.steps c.outputs right.steps_legal right.outputs_legal })

  held : Held edition1 p c.steps c.outputs
  held = legal_held p c.steps c.outputs legal

  made : Passing p c.steps c.outputs amounts
  made =
      record {
        legal = legal;
        amounts_fit = fits.ranges.amounts_are ∙ ap (λ (n : ℕ). p * n) (sym right.outputs);
        low = right.within;
        made = λ i h. right.makes i (omega (arith, right.outputs));
      }

  pub promised : Promised p q amounts method k c (count p q amounts method k) (ceiling p q amounts method k)
  unfolding compile_rule write_rule
  promised =
      record {
        compiles = λ x y h g. sym (pass _ _ fine (sym ok) (refuse_no _ 5 0 (or_none _ _ (lt_no _ _ h) (lt_no _ _ g))));
        writes = λ x h. sym (pass _ _ fine (sym held) (refuse_no _ 5 0 (lt_no _ _ (rw (right.outputs, right.counted) h))));
        reads =
            λ x y h g.
            legal_reads p c.steps c.outputs legal x y (omega (arith, right.counted)) (omega (arith, right.outputs));
        read_back = legal_gives p c.steps c.outputs legal;
        passes = λ x h. passes_verify p c.steps c.outputs amounts x made (omega (arith, right.counted));
        runs =
            λ m bases some len under room places h g.
            runs_fine p c.steps c.outputs m bases room places
            (record {
              sizes = sizes;
              modulus = some;
              bases_are_p = len;
              bases_low = under;
              steps_fine = right.steps_legal;
              outputs_within = outputs_low (p + length c.steps) 1 c.outputs right.outputs_legal;
              values_fit = omega (arith, right.counted);
              figures_fit = omega (arith, right.outputs);
            })
            few;
        figures =
            λ m bases some len under i h.
            figure_law p m bases c.steps len under right.steps_legal c.outputs amounts i (omega (arith, right.outputs)) (right.makes i h);
        multiplications = right.counted;
        payslips = right.outputs;
        limited = right.limited;
      }
