use mathlib.Core.Path.{sym, ◌∙◌}
use Rattle.std.proofs.lemmas.Result.{err_from_is_err_and}
use Rattle.protocol_write.proofs.RowLoops.{row_refused}
use Rattle.protocol.specs.declared.message.RowKind.TheVariants.{Predicate}
use Rattle.protocol_write.proofs.RowsLaid.{first_laid}
use Rattle.protocol_write.proofs.checks.check_texts.Goals as goal

pub check_type-requires-clause-laid : goal.check_type-requires-clause-laid
check_type-requires-clause-laid c =
    let i = c.loop-row.invariant in
    let steps = c.in-Some.ensures.steps in
    first_laid _ _ Predicate _ _ _ _ steps.1.0 steps.1.1 i.0 i.2

pub returns-in_err-check_type : goal.returns-in_err-check_type
returns-in_err-check_type c =
    let p = err_from_is_err_and c.from_residual.result c.from_residual.ensures.1 in
    rw (p.1, p.2, c.loop-row.invariant.1, row_refused _ _ _ _ _ c.in-Some.ensures.steps.1.0 c.in-Some.ensures.steps.1.1 c.loop-row.invariant.0 _ _ _ _ (sym c.check_type.ensures ∙ c.in_err-check_type.was))
