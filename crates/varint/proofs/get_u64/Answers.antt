use mathlib.Core.Path.{sym}
use Rattle.varint.proofs.ReadLaws.{get_one}
use Rattle.varint.proofs.get_u64.Goals as goal

pub returns-then-b-lt128 : goal.returns-then-b-lt128
returns-then-b-lt128 c = let w = c.from-b in sym (get_one _ _ c.if-at-s.true w.ensures c.if-b-lt128.true)
