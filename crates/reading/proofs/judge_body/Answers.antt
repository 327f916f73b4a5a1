-- Each return is one rule of `body_rule` that refuses; once the length is right the extent lies within the bytes, and the rest is the chain's judge.
use Rattle.std.proofs.Common.{◌∙◌, refl, ap}
use Rattle.chain.specs.Verdict.{Verdict}
use Rattle.chain.specs.Chain.{chain_rule, squarings_of}
use Rattle.chain.specs.Inner.{counted_by}
use Rattle.chain.proofs.Rules.{stop, pass, refuse_yes, refuse_no, ne_yes, ne_no, lt_yes, lt_no, or_left, or_right, or_none}
use Rattle.chain.proofs.Squarings.{counted_refused}
use Rattle.reading.specs.Inner.{file_steps, file_outputs, body_rule}
use Rattle.reading.proofs.ReadAnswers.{contained, filling_room, body_is}
use Rattle.reading.proofs.judge_body.Goals as goal

pub returns-then-bytes-x : goal.returns-then-bytes-x
unfolding body_rule
returns-then-bytes-x c = rw c.into.ensures (counted_refused _ _ _ _ (stop _ _ _ _ (refuse_yes _ _ _ (ne_yes _ _ c.if-bytes-x.true))))

pub returns-then-room-x : goal.returns-then-room-x
unfolding body_rule
returns-then-room-x c =
    rw c.into-then-room-x.ensures
    (counted_refused _ _ _ _
    (pass _ _ _ (refuse_no _ _ _ (ne_no _ _ c.if-bytes-x.false))
    (stop _ _ _ _ (refuse_yes _ _ _ (or_left _ _ (lt_yes _ _ c.if-room-x.true))))))

pub returns-then-places-x : goal.returns-then-places-x
unfolding body_rule
returns-then-places-x c =
    rw c.into-then-places-x.ensures
    (counted_refused _ _ _ _
    (pass _ _ _ (refuse_no _ _ _ (ne_no _ _ c.if-bytes-x.false))
    (stop _ _ _ _ (refuse_yes _ _ _ (or_right _ _ (lt_yes _ _ c.if-places-x.true))))))

pub take-filling-requires : goal.take-filling-requires
take-filling-requires c = filling_room _ _ c.requires c.if-bytes-x.false

pub returns-then-filling-ne0 : goal.returns-then-filling-ne0
returns-then-filling-ne0 c =
    rw c.into-then-filling-ne0.ensures
    (counted_refused _ _ _ _
    (body_is _ c.args.x c.requires _ _ _ c.take-filling.ensures.is _
    (pass _ _ _ (refuse_no _ _ _ (ne_no _ _ c.if-bytes-x.false))
    (pass _ _ _ (refuse_no _ _ _ (or_none _ _ (lt_no _ _ c.if-room-x.false) (lt_no _ _ c.if-places-x.false)))
    (stop _ _ _ _ (refuse_yes _ _ _ (ne_yes _ _ c.if-filling-ne0.true)))))))

pub judge_chain-requires : goal.judge_chain-requires
judge_chain-requires c = contained _ _ c.requires c.if-bytes-x.false

pub returns : goal.returns
returns c =
    let steps = file_steps c.args.bytes.now c.args.x in
    let chain : Verdict = chain_rule c.args.x.p steps (file_outputs c.args.bytes.now c.args.x) in
    c.judge_chain.ensures
    ∙ ap (λ (v : Verdict). counted_by v (squarings_of steps))
    (body_is _ c.args.x c.requires _ _ _ c.take-filling.ensures.is chain
    (pass _ _ _ (refuse_no _ _ _ (ne_no _ _ c.if-bytes-x.false))
    (pass _ _ _ (refuse_no _ _ _ (or_none _ _ (lt_no _ _ c.if-room-x.false) (lt_no _ _ c.if-places-x.false)))
    (pass _ _ _ (refuse_no _ _ _ (ne_no _ _ c.if-filling-ne0.false)) refl))))
