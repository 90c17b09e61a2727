use mathlib.Core.Path.{sym}
use native.Mathlib.Omega.{arith}
use Prim.Native.Nat.{◌+◌, ◌<◌}
use Rattle.varint.proofs.ReadLaws.{get_two, get_three}
use Rattle.varint.proofs.get_short.Goals as goal

pub returns-then-c-gt0 : goal.returns-then-c-gt0
returns-then-c-gt0 c =
    let p = c.requires in
    sym (get_two _ _ (omega arith) p.1 p.2 p.3 c.from-c.ensures c.if-c-lt128.true c.if-c-gt0.true)

pub returns-then-d-gt0 : goal.returns-then-d-gt0
returns-then-d-gt0 c =
    let p = c.requires in
    let u : c.from-c.result < 256 = omega (arith, c.type_inv.s (c.args.at + 1)) in
    sym (get_three _ _ (omega arith) p.1 p.2 p.3 c.from-c.ensures c.if-c-lt128.false u c.from-d.ensures c.if-d-lt128.true c.if-d-gt0.true)
