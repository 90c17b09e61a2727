use mathlib.Core.Path.{◌≡◌, sym, ◌∙◌, ap}
use Prim.Native.Nat.{◌+◌, ◌-◌}
use native.Mathlib.Omega.{arith}
use Rattle.std.proofs.lemmas.Result.{err_from_is_err_and}
use Rattle.varint.specs.Runs.{end_of}
use Rattle.varint.proofs.RunLaws.{end_none, end_on, end_off}
use Rattle.varint.proofs.run.skim_run.Goals as goal

pub returns-in_err-p : goal.returns-in_err-p
returns-in_err-p c =
    let p = err_from_is_err_and c.from_residual.result c.from_residual.ensures.1 in
    rw (p.1, p.2) (sym (c.loop.invariant ∙ end_off _ _ _ (omega (arith, c.loop-test.true)) (sym c.skim_next.ensures ∙ c.in_err-p.was)))

pub loop-preserved : goal.loop-preserved
loop-preserved c =
    let e : c.args.count - c.loop.counter - 1 ≡ c.args.count - (c.loop.counter + 1) = omega arith in
    c.loop.invariant ∙ end_on _ _ _ (omega (arith, c.loop-test.true)) (sym c.skim_next.ensures ∙ c.in_ok-p.was) ∙ ap (λ n. end_of n c.args.s.now c.in_ok-p.p) e

pub returns : goal.returns
returns c = sym (c.loop.invariant ∙ end_none _ _ _ (omega (arith, c.loop-test.false)))
