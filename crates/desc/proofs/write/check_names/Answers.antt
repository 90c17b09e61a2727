use mathlib.Core.Path.{sym, ◌∙◌}
use Rattle.std.proofs.lemmas.Result.{err_from_is_err_and}
use Rattle.desc.proofs.TableNames.{names_good, names_refused, names_end}
use Rattle.desc.proofs.write.check_names.Goals as goal

pub returns-in_err-check_name : goal.returns-in_err-check_name
returns-in_err-check_name c =
    let p = err_from_is_err_and c.from_residual.result c.from_residual.ensures.1 in
    rw (p.1, p.2) (sym (c.loop-m.invariant ∙ names_refused _ _ _ _ _ _ _ c.read_span.ensures.0 c.read_span.ensures.1 c.check_name.ensures c.loop-m-test.true _ c.in_err-check_name.was))

pub loop-m-preserved : goal.loop-m-preserved
loop-m-preserved c = c.loop-m.invariant ∙ names_good _ _ _ _ _ _ _ c.read_span.ensures.0 c.read_span.ensures.1 c.check_name.ensures c.loop-m-test.true c.in_ok-check_name.was

pub returns : goal.returns
returns c = sym (c.loop-m.invariant ∙ names_end _ _ _ _ c.loop-m-test.false)
