use mathlib.Core.Path.{refl}
use native.Mathlib.Omega.{arith}
use Rattle.varint.proofs.PutSteps.{left_near, left_last, left_step, left_done}
use Rattle.varint.proofs.put_free.Goals as goal

pub bounds-out-p : goal.bounds-out-p
bounds-out-p c = omega (arith, left_near c.loop-v.invariant c.ranges.value.fits)

pub overflow_add-p : goal.overflow_add-p
overflow_add-p c = omega (arith, left_near c.loop-v.invariant c.ranges.value.fits)

pub loop-v-preserved : goal.loop-v-preserved
loop-v-preserved c = left_step c.loop-v.invariant c.loop-v-test.true refl

pub bounds-out-p-2 : goal.bounds-out-p-2
bounds-out-p-2 c = omega (arith, left_near c.loop-v.invariant c.ranges.value.fits)

pub overflow_add-result : goal.overflow_add-result
overflow_add-result c = omega (arith, left_near c.loop-v.invariant c.ranges.value.fits)

pub returns : goal.returns
returns c =
    let i = c.loop-v.invariant in
    (omega (arith, left_last i c.loop-v-test.false), left_done i c.loop-v-test.false refl)
