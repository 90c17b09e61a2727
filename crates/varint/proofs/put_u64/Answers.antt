use mathlib.Core.Path.{sym}
use native.Mathlib.Omega.{arith}
use Rattle.varint.specs.Leb128.{put_u64}
use Rattle.varint.proofs.StoreLaws.{sets_out, sets_from}
use Rattle.varint.proofs.put_u64.Goals as goal

pub returns-then-out-at : goal.returns-then-out-at
returns-then-out-at c =
    let a = c.args in
    (c.len_u64.ensures, sym (sets_out (put_u64 a.value) a.out.now a.at c.if-out-at.true))

pub returns-then-room-ge-MAX_LEN : goal.returns-then-room-ge-MAX_LEN
returns-then-room-ge-MAX_LEN c =
    let a = c.args in
    (c.put_free.ensures.0, sets_from (put_u64 a.value) a.out.now a.at (omega arith) c.put_free.ensures.1)

pub returns : goal.returns
returns c =
    let a = c.args in
    (c.put_clipped.ensures.0, sets_from (put_u64 a.value) a.out.now a.at (omega arith) c.put_clipped.ensures.1)
