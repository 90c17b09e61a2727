use mathlib.Core.Path.{sym}
use Rattle.desc.proofs.TableCells.{fits_not, fits_parts, given}
use Rattle.desc.proofs.write.fitting_row.Goals as goal

pub returns-in_err-row : goal.returns-in_err-row
returns-in_err-row c = rw c.from_residual.ensures (sym (fits_not _ _ _ c.in_err-row.ensures))

pub returns : goal.returns
returns c =
    let a = c.args in
    let row = c.in_ok-row.row in
    let there = c.in_ok-row.ensures in
    rw c.then_some.ensures
    (given _ row (fits_parts a.nodes.now a.n a.parent row.now there.1 there.0 c.greatest.ensures c.greatest-2.ensures c.is_branch.ensures) there.1)
