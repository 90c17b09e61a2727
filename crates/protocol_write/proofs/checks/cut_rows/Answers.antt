use borrow.Author.Rules.{rules}
use Rattle.protocol_write.proofs.RowLoops.{there_fits}
use Rattle.protocol_write.proofs.checks.cut_rows.Goals as goal

pub overflow_mul-result : goal.overflow_mul-result
overflow_mul-result g c =
    let h = there_fits _ _ _ c.requires in
    let w = c.width.ensures in
    search rules

pub slice_bounds-result-end : goal.slice_bounds-result-end
slice_bounds-result-end g c =
    let h = there_fits _ _ _ c.requires in
    let w = c.width.ensures in
    search rules

pub returns : goal.returns
returns g c =
    let h = there_fits _ _ _ c.requires in
    let w = c.width.ensures in
    search rules
