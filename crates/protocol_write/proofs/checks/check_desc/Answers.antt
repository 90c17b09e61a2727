use native.Mathlib.Omega.{arith}
use Rattle.protocol_write.proofs.NodeChecks.{desc_inside}
use Rattle.protocol_write.proofs.checks.check_desc.Goals as goal

pub overflow_add-n : goal.overflow_add-n
overflow_add-n c = let h = desc_inside _ _ _ _ c.requires c.read_cell-end.ensures in omega arith
