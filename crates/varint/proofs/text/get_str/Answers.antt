use mathlib.Core.Path.{sym, ◌∙◌}
use Rattle.std.proofs.lemmas.Result.{err_from_is_err_and}
use Rattle.varint.proofs.TextLaws.{text_valid, text_invalid, text_refused}
use Rattle.varint.proofs.text.get_str.Goals as goal

pub returns-then-is_utf8 : goal.returns-then-is_utf8
returns-then-is_utf8 c = text_valid c.args.s.now c.args.at _ _ _ (sym c.skim_str.ensures ∙ c.in_ok-text.was) c.is_utf8.ensures c.if-is_utf8.true

pub returns-in_err-text : goal.returns-in_err-text
returns-in_err-text c =
    let p = err_from_is_err_and c.from_residual.result c.from_residual.ensures.1 in
    rw (p.1, p.2) (text_refused c.args.s.now c.args.at _ (sym c.skim_str.ensures ∙ c.in_err-text.was))

pub returns : goal.returns
returns c = text_invalid c.args.s.now c.args.at _ _ _ (sym c.skim_str.ensures ∙ c.in_ok-text.was) c.is_utf8.ensures c.if-is_utf8.false
