use Prim.Native.Nat.{◌<◌}
use native.Mathlib.Omega.{arith}
use lib.ListN.{length}
use Rattle.protocol_write.proofs.Encodes.{encode_big, encode_small, encode_done}
use Rattle.protocol_write.proofs.encode_within.Goals as goal

pub returns-then-max-size : goal.returns-then-max-size
returns-then-max-size c =
    rw c.too_large.ensures (encode_big _ _ _ _ _ _ _ _ c.check_message.ensures _ c.in_ok-size.was c.if-max-size.true)

pub returns-then-out-size : goal.returns-then-out-size
returns-then-out-size c =
    rw c.too_small.ensures
    (encode_small _ _ _ _ _ _ _ _ c.check_message.ensures _ c.in_ok-size.was c.if-max-size.false c.requires c.if-out-size.true)

pub returns : goal.returns
returns c =
    let l : length c.args.out.now < 18446744073709551616 = omega arith in
    encode_done _ _ _ _ _ _ _ _ c.check_message.ensures _ c.in_ok-size.was c.if-max-size.false c.requires _ _ l c.if-out-size.false c.write_message.ensures c.fill_from.ensures
