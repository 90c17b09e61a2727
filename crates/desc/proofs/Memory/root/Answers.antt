use mathlib.Core.Path.{ap}
use Prim.Native.Nat.{ℕ}
use Rattle.std.specs.Prelude.{Result}
use Rattle.std.proofs.lemmas.Result.{err_from_is_err_and}
use Rattle.varint.specs.declared.error.Refusal.{Refusal}
use Rattle.desc.specs.Inner.Walking.{reached}
use Rattle.desc.proofs.Memory.root.Goals as goal

pub returns-in_err-next-clause-read : goal.returns-in_err-next-clause-read
unfolding reached
returns-in_err-next-clause-read c =
    let p = err_from_is_err_and c.from_residual.result c.from_residual.ensures.1 in
    let told = ap (λ (x : Result ℕ Refusal). reached x c.walk.new.self) c.in_err-next.was in
    rw (p.1, p.2) (rw told at c.walk.ensures.read)

pub returns-clause-read : goal.returns-clause-read
unfolding reached
returns-clause-read c =
    let told = ap (λ (x : Result ℕ Refusal). reached x c.walk.new.self) c.in_ok-next.was in
    rw told at c.walk.ensures.read
