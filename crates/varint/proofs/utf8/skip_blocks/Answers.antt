use native.Mathlib.Omega.{arith}
use Rattle.varint.proofs.Utf8Laws.{passed_on, ascii_passed}
use Rattle.varint.proofs.utf8.skip_blocks.Goals as goal

pub loop-p-preserved : goal.loop-p-preserved
loop-p-preserved c = let block = ascii_passed _ _ _ (omega arith) (omega arith) (c.all_below.ensures c.if-not-all_below.false) in
    passed_on _ (passed_on _ c.loop-p.invariant block) c.skip_long-p.ensures
