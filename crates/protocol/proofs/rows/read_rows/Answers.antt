use mathlib.Core.Path.{◌∙◌}
use native.Mathlib.Omega.{arith}
use Rattle.std.proofs.lemmas.Result.{err_from_is_err_and}
use Rattle.protocol.specs.Inner.Loading.{mem}
use Rattle.protocol.proofs.RowsLaws.{load_rows}
use Rattle.protocol.proofs.RowsLoop.{rows_done, rows_stop, rows_on, rows_rely, row_relies, row_fits}
use Rattle.protocol.proofs.rows.read_rows.Goals as goal

pub read-requires-clause-again : goal.read-requires-clause-again
read-requires-clause-again g c =
    let m = c.loop.memory in
    row_relies g.R.Row.KIND c.args.s.now c.loop.next (mem m) (omega arith) c.loop.invariant.2

pub returns-in_err-next : goal.returns-in_err-next
returns-in_err-next g c =
    let p = err_from_is_err_and c.from_residual.result c.from_residual.ensures.1 in
    let a = c.args in
    let h = c.loop.invariant.0 in
    let k = c.read.ensures.0 in
    rw (p.1, p.2)
    ((k.0 ∙ h.0, k.1 ∙ h.1, k.2 ∙ h.2), rows_stop g.R.Row.KIND a.s.now _ _ c.loop.invariant.3 (omega arith) _ _ (rw c.in_err-next.was at c.read.ensures.1))

pub loop-preserved : goal.loop-preserved
loop-preserved g c =
    let a = c.args in
    let h = c.loop.invariant.0 in
    let k = c.read.ensures.0 in
    let one = rw c.in_ok-next.was at c.read.ensures.1 in (
      (k.0 ∙ h.0, k.1 ∙ h.1, k.2 ∙ h.2),
      row_fits g.R.Row.KIND a.s.now _ _ _ _ c.loop.invariant.1 one,
      rows_rely g.R.Row.KIND a.s.now _ (mem c.loop.memory) (omega arith) c.loop.invariant.2 _ _ one (omega arith),
      rows_on g.R.Row.KIND a.s.now _ _ c.loop.invariant.3 (omega arith) _ _ one (omega arith),
    )

pub returns : goal.returns
returns g c =
    let a = c.args in
    (c.loop.invariant.0, rows_done g.R.Row.KIND a.s.now {all = load_rows g.R.Row.KIND a.count a.s.now a.at (mem a.memory.now)} _ _ c.loop.invariant.3 (omega arith))
