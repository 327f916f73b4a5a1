-- The first newline of the bytes from the place on, where there is one.
use Rattle.std.proofs.Common.{◌∙◌, rules, tests}
use Rattle.std.proofs.lemmas.Iterator.{YieldsList-from_slice}
use Rattle.std.proofs.lemmas.Iterator.Search.{position_from_yields_List}
use Rattle.lines.proofs.Lines.{is_newline, rest_part, end_found, end_none}
use Rattle.lines.proofs.line_end.Goals as goal

pub returns-in-Some : goal.returns-in-Some
returns-in-Some c =
    let sought = position_from_yields_List is_newline _ _ c.position.result c.position.ensures.ran (YieldsList-from_slice _ (c.iter.ensures.rest ∙ rest_part c.args.text.now c.args.at)) (λ x b q k. search (rules, tests)) in
    end_found c.args.text.now c.args.at c.requires _ sought _ c.in-Some.is

pub returns-in-None : goal.returns-in-None
returns-in-None c =
    let sought = position_from_yields_List is_newline _ _ c.position.result c.position.ensures.ran (YieldsList-from_slice _ (c.iter.ensures.rest ∙ rest_part c.args.text.now c.args.at)) (λ x b q k. search (rules, tests)) in
    end_none c.args.text.now c.args.at c.requires _ sought c.in-None.is
