use Rattle.varint.proofs.OutLaws.{out_refused, out_wrote}
use Rattle.varint.proofs.encode_u64.Goals as goal

pub returns-then-out-len : goal.returns-then-out-len
returns-then-out-len c = rw c.too_small.ensures (out_refused _ _ _ c.len_u64-len.ensures c.if-out-len.true)

pub returns : goal.returns
returns c = out_wrote _ _ _ c.len_u64-len.ensures c.if-out-len.false c.put_u64.ensures.1 c.fill_from.ensures
