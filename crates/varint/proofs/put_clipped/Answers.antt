use native.Mathlib.Omega.{arith}
use Rattle.varint.proofs.PutSteps.{left_near, left_last, left_step, left_done}
use Rattle.varint.proofs.put_clipped.Goals as goal

pub overflow_add-p : goal.overflow_add-p
overflow_add-p c = omega (arith, left_near c.loop-v.invariant c.ranges.value.fits)

pub loop-v-preserved : goal.loop-v-preserved
loop-v-preserved c = left_step c.loop-v.invariant c.loop-v-test.true c.store.ensures

pub overflow_add-result : goal.overflow_add-result
overflow_add-result c = omega (arith, left_near c.loop-v.invariant c.ranges.value.fits)

pub returns : goal.returns
returns c =
    let i = c.loop-v.invariant in
    let t = c.loop-v-test.false in
    (omega (arith, left_last i t), left_done i t c.store-2.ensures)
