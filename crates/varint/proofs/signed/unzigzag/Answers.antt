use Prim.Native.Nat.{◌/◌, ◌<◌}
use native.Mathlib.Omega.{arith}
use mathlib.Core.Path.{sym, ◌∙◌}
use mir.Syntax.{w64}
use mir.ValLaws.{to_z_pos}
use Rattle.varint.proofs.ZigzagLaws.{unzig_even, unzig_odd}
use Rattle.varint.proofs.Bits64.{flip}
use Rattle.varint.proofs.signed.unzigzag.Goals as goal

pub returns-then-even : goal.returns-then-even
returns-then-even c =
    let u = c.args.bits in
    let h : u / 2 < 9223372036854775808 = omega arith in
    to_z_pos w64 (u / 2) h ∙ sym (unzig_even u c.if-even.true)

pub returns-else-even : goal.returns-else-even
returns-else-even c =
    let u = c.args.bits in
    let h : u / 2 < 9223372036854775808 = omega arith in
    flip (u / 2) h ∙ sym (unzig_odd u c.if-even.false)
