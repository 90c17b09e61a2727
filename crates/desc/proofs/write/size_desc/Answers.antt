use Rattle.desc.proofs.EmitPens.{at_root}
use Rattle.desc.proofs.EmitSize.{size_told, size_wrong}
use Rattle.desc.proofs.write.size_desc.Goals as goal

pub returns-in_err-next : goal.returns-in_err-next
returns-in_err-next c = rw c.from_residual.ensures (size_wrong _ _ _ _ (at_root _ _ _ _ _ c.emit.ensures.written c.in_err-next.was))

pub returns : goal.returns
returns c = size_told _ _ _ _ _ (at_root _ _ _ _ _ c.emit.ensures.written c.in_ok-next.was)
