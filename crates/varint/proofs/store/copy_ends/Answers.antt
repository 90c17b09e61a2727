use Prim.Native.Nat.{◌+◌, ◌-◌}
use native.Mathlib.Omega.{arith}
use Rattle.varint.proofs.StoreLaws.{sets_end}
use Rattle.varint.proofs.store.copy_ends.Goals as goal

pub returns : goal.returns
returns c =
    let second = c.before.before in
    let first = second.before.before.before.before in
    let start = first.before.before.before.before in
    let a = start.args in
    sets_end a.src.now a.dst.now a.from a.at a.width (a.from + a.len - a.width) (a.at + a.len - a.width) a.width a.len
    (omega arith)
    first.copy_block.ensures
    second.copy_block-2.ensures
