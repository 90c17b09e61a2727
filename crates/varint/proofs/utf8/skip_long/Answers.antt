use native.Mathlib.Omega.{arith}
use Rattle.varint.proofs.Utf8Laws.{passed_on, ascii_passed}
use Rattle.varint.proofs.utf8.skip_long.Goals as goal

pub loop-p-preserved : goal.loop-p-preserved
loop-p-preserved c = passed_on _ c.loop-p.invariant (ascii_passed _ _ _ (omega arith) (omega arith) (c.all_below.ensures c.if-not-all_below.false))
