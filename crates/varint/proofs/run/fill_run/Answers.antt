use mathlib.Core.Path.{sym, ◌∙◌}
use native.Mathlib.Omega.{arith}
use Rattle.std.proofs.lemmas.Result.{err_from_is_err_and}
use Rattle.varint.proofs.RunLaws.{filling_next, filling_bad, filling_done}
use Rattle.varint.proofs.run.fill_run.Goals as goal

pub returns-in_err-value : goal.returns-in_err-value
returns-in_err-value c =
    let p = err_from_is_err_and c.from_residual.result c.from_residual.ensures.1 in
    rw (p.1, p.2) (filling_bad c.loop-r.invariant (omega arith) (sym c.get_any.ensures ∙ c.in_err-value.was))

pub loop-r-preserved : goal.loop-r-preserved
loop-r-preserved c = filling_next c.loop-r.invariant (omega arith) (sym c.get_any.ensures ∙ c.in_ok-value.was) c.store.ensures

pub returns : goal.returns
returns c = filling_done c.loop-r.invariant (omega arith)
