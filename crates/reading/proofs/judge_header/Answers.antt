-- Each return is one rule of `header_rule`; where none refuses, n is within the limit, and the extent is that of the header's numbers.
use Rattle.std.proofs.Common.{◌≡◌, sym, rules, Err}
use Rattle.chain.proofs.Rules.{judging, pass, refuse_no, lt_no, ne_no}
use Rattle.chain.proofs.Sizes.{length-fits}
use Rattle.reading.specs.Inner.{header_rule}
use Rattle.reading.proofs.ReadAnswers.{header_is, sized_by, extent_is}
use Rattle.reading.proofs.judge_header.Goals as goal

pub returns-then-bytes-lt-FEWEST_BYTES : goal.returns-then-bytes-lt-FEWEST_BYTES
unfolding header_rule
returns-then-bytes-lt-FEWEST_BYTES c = rw c.into.ensures (search judging depth 8)

pub returns-then-h-layout : goal.returns-then-h-layout
returns-then-h-layout c =
    rw c.into-then-h-layout.ensures (header_is c.args.layout _ _ c.take_header-h.ensures _ (search judging depth 10))

pub returns-in_err-judge_length : goal.returns-in_err-judge_length
returns-in_err-judge_length c =
    let told : c.from_residual.result ≡ Err c.in_err-judge_length.field-0.0 = search rules in
    rw told
    (header_is c.args.layout _ _ c.take_header-h.ensures _
    (pass _ _ _ (refuse_no _ _ _ (lt_no _ _ c.if-bytes-lt-FEWEST_BYTES.false))
    (pass _ _ _ (refuse_no _ _ _ (ne_no _ _ c.if-h-layout.false)) c.in_err-judge_length.ensures)))

pub extent_of-requires : goal.extent_of-requires
extent_of-requires c =
    record {
      sound = c.requires;
      sized = sized_by c.args.layout _ _ c.take_header-h.ensures (length-fits _ _ (sym c.in_ok-judge_length.ensures));
    }

pub returns : goal.returns
returns c = (
  header_is c.args.layout _ _ c.take_header-h.ensures _
      (pass _ _ _ (refuse_no _ _ _ (lt_no _ _ c.if-bytes-lt-FEWEST_BYTES.false))
      (pass _ _ _ (refuse_no _ _ _ (ne_no _ _ c.if-h-layout.false)) c.in_ok-judge_length.ensures)),
  extent_is c.args.layout _ _ c.take_header-h.ensures _ c.extent_of.ensures,
)
