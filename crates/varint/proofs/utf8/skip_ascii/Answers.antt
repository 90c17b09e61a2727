use Prim.Native.Nat.{ℕ, ◌≤◌, ◌<◌}
use native.Mathlib.Omega.{arith}
use mathlib.Core.Logic.{⊎_elim}
use mathlib.Core.Path.{◌≡◌, ap}
use mathlib.Core.List.{List}
use lib.ListN.{get_or}
use Rattle.varint.specs.Inner.Utf8Steps.{Passed}
use Rattle.varint.proofs.Basics.{below}
use Rattle.varint.proofs.Utf8Laws.{passed_on, passed_ascii, ascii_passed}
use Rattle.varint.proofs.utf8.skip_ascii.Goals as goal
use Rattle.varint.proofs.utf8.skip_ascii.Goals.{then-left-lt16+then-left-ge8+then-all_below, then-left-lt16+then-left-ge8+else-all_below, then-left-lt16+else-left-ge8, else-left-lt16}

-- Both invariants: whole characters stand before p.
-- a byte that is not ASCII is not the first of the run
further : {s : List ℕ} {from p : ℕ} → Passed s from p → get_or s from 0 < 128 → 128 ≤ get_or s p 0 → from < p
further {s} {from} {p} h k l =
    ⊎_elim
    (λ (m : from < p). m)
    (λ (m : p ≤ from). let e : p ≡ from = omega arith in absurd (omega (arith, ap (λ (q : ℕ). get_or s q 0) e)))
    (below from p)

passed_to : {s : List ℕ} {from p q : ℕ} → q ≡ p → Passed s from p → Passed s from q
passed_to e h = rw e h

pub loop-p-preserved : goal.loop-p-preserved
loop-p-preserved c = let block = ascii_passed _ _ _ (omega arith) (omega arith) (c.all_below.ensures c.if-not-all_below.false) in
    passed_on _ (passed_on _ c.loop-p.invariant block) c.skip_blocks-p.ensures

pub loop-p-2-init : goal.loop-p-2-init
loop-p-2-init c =
    let l = c.loop-p.invariant in
    elim c.if-left-lt16.branch [
      | then-left-lt16+then-left-ge8+then-all_below w ↦ passed_to w.p-is (passed_on _ l (ascii_passed _ _ _ (omega arith) (omega arith) (w.all_below-then-left-ge8.ensures w.if-all_below.true)))
      | then-left-lt16+then-left-ge8+else-all_below w ↦ passed_to w.p-is l
      | then-left-lt16+else-left-ge8 w ↦ passed_to w.p-is l
      | else-left-lt16 w ↦ passed_to w.p-is l
    ]

pub loop-p-2-preserved : goal.loop-p-2-preserved
loop-p-2-preserved c = passed_on _ c.loop-p-2.invariant (passed_ascii _ _ c.loop-p-2-test.true c.if-s-p-ge128.false)
