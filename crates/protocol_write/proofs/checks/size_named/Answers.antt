use mathlib.Core.Path.{sym, ◌∙◌}
use Rattle.std.proofs.lemmas.Result.{err_from_is_err_and}
use Rattle.protocol_write.specs.Inner.Checking.{size_if}
use Rattle.protocol_write.proofs.RowLoops.{row_refused}
use Rattle.protocol_write.proofs.checks.size_named.Goals as goal

pub returns-in_err-check : goal.returns-in_err-check
unfolding size_if
returns-in_err-check g c =
    let p = err_from_is_err_and c.from_residual.result c.from_residual.ensures.1 in
    let i = c.loop-row.invariant in
    let refused = rw i.1 at (sym c.check.ensures ∙ c.in_err-check.was) in
    rw (p.1, p.2, i.3, row_refused _ _ _ _ _ c.in-Some.ensures.steps.1.0 c.in-Some.ensures.steps.1.1 i.0 _ _ _ _ refused)
