use Prim.Native.Nat.{◌+◌, ◌-◌, ◌*◌, ◌^◌, ◌<◌}
use native.Mathlib.Omega.{arith}
use mathlib.Core.Path.{◌≡◌, refl, sym, ◌∙◌}
use mathlib.Core.List.{◌∷◌}
use lib.ListN.{drop}
use Rattle.varint.specs.Leb128.{read_from}
use Rattle.varint.proofs.ReadLaws.{tenth_zero, tenth_one, tenth_more, last_zero, last_first, last_more, read_end}
use Rattle.varint.proofs.ByteLoop.{Going, going_start, going_fits, going_at, going_more}
use Rattle.varint.proofs.get_any.Goals as goal
use Rattle.varint.proofs.get_any.Goals.{then-b-eq0+else-padded, else-b-eq0}
use Rattle.std.specs.Prelude.{Ok}

pub loop-i-init : goal.loop-i-init
loop-i-init c = let e : c.args.at + 0 ≡ c.args.at = omega arith in rw e (going_start _ _)

pub returns-then-s-at : goal.returns-then-s-at
returns-then-s-at c = sym ((going_start c.args.s.now c.args.at).same ∙ read_end _ _ _ _ c.if-s-at.true)

pub returns-then-left-i : goal.returns-then-left-i
returns-then-left-i c = sym (c.loop-i.invariant.same ∙ read_end c.args.s.now (c.args.at + c.loop-i.i) c.loop-i.i c.loop-i.value (omega arith))

pub returns-then-padded : goal.returns-then-padded
returns-then-padded c =
    sym (going_at c.loop-i.invariant (omega arith) c.from-b.ensures ∙ last_zero _ _ _ _ _ c.if-b-eq0.true c.if-padded.true (omega arith))

pub overflow_mul-result : goal.overflow_mul-result
overflow_mul-result c = omega (arith, going_fits c.loop-i.invariant _ c.if-b-lt128.true (omega arith))

pub overflow_add-result : goal.overflow_add-result
overflow_add-result c = omega (arith, going_fits c.loop-i.invariant _ c.if-b-lt128.true (omega arith))

pub returns-then-b-lt128 : goal.returns-then-b-lt128
returns-then-b-lt128 c =
    let l = c.loop-i in
    let b = c.from-b.result in
    let rest = drop (c.args.at + l.i + 1) c.args.s.now in
    let lt : b < 128 = c.if-b-lt128.true in
    let answer : read_from (b ∷ rest) (c.args.at + l.i) l.i l.value ≡ Ok (l.value + b * 128 ^ l.i, c.args.at + l.i + 1) =
    elim c.if-b-eq0.branch [
      | then-b-eq0+else-padded w ↦ last_first b rest (c.args.at + l.i) l.i l.value (omega (arith, w.if-padded.false)) lt
      | else-b-eq0 w ↦ last_more b rest (c.args.at + l.i) l.i l.value lt (omega (arith, w.if-b-eq0.false)) (omega arith)
    ] in
    sym (going_at c.loop-i.invariant (omega arith) c.from-b.ensures ∙ answer ∙ rw l.invariant.power)

pub overflow_mul-value : goal.overflow_mul-value
overflow_mul-value c = let h : c.from-b.result - 128 < 128 = omega (arith, c.type_inv.s (c.args.at + c.loop-i.i)) in omega (arith, going_fits c.loop-i.invariant _ h (omega arith))

pub overflow_add-value : goal.overflow_add-value
overflow_add-value c = let h : c.from-b.result - 128 < 128 = omega (arith, c.type_inv.s (c.args.at + c.loop-i.i)) in omega (arith, going_fits c.loop-i.invariant _ h (omega arith))

pub overflow_mul-unit : goal.overflow_mul-unit
overflow_mul-unit c = omega (arith, going_fits c.loop-i.invariant 0 (omega arith) (omega arith))

pub loop-i-preserved : goal.loop-i-preserved
loop-i-preserved c =
    let e : c.args.at + (c.loop-i.i + 1) ≡ c.args.at + c.loop-i.i + 1 = omega arith in
    rw e
    (going_more c.loop-i.invariant (omega arith) c.from-b.ensures (omega (arith, c.from-b.ensures, c.type_inv.s (c.args.at + c.loop-i.i))) c.if-b-lt128.false (omega arith))

pub returns-then-left-lt-MAX_LEN : goal.returns-then-left-lt-MAX_LEN
returns-then-left-lt-MAX_LEN c =
    let l = c.loop-i in
    let nine : l.i ≡ 9 = omega (arith, l.invariant.nine) in
    sym (l.invariant.same ∙ read_end c.args.s.now (c.args.at + l.i) l.i l.value (omega arith))

pub returns-in-0 : goal.returns-in-0
returns-in-0 c =
    let l = c.loop-i in
    let nine : l.i ≡ 9 = omega (arith, l.invariant.nine) in
    let g : Going c.args.s.now c.args.at l.value l.unit 9 (c.args.at + 9) = rw nine at l.invariant in
    sym (going_at g (omega arith) refl ∙ tenth_zero _ _ _ _ _ c.in-0.is refl)

pub returns-in-1 : goal.returns-in-1
returns-in-1 c =
    let l = c.loop-i in
    let nine : l.i ≡ 9 = omega (arith, l.invariant.nine) in
    let g : Going c.args.s.now c.args.at l.value l.unit 9 (c.args.at + 9) = rw nine at l.invariant in
    let e : c.args.at + 10 ≡ c.args.at + 9 + 1 = omega arith in
    rw e (sym (going_at g (omega arith) refl ∙ tenth_one _ _ _ _ _ c.in-1.is refl ∙ rw g.power))

pub returns-in_default : goal.returns-in_default
returns-in_default c =
    let l = c.loop-i in
    let nine : l.i ≡ 9 = omega (arith, l.invariant.nine) in
    let g : Going c.args.s.now c.args.at l.value l.unit 9 (c.args.at + 9) = rw nine at l.invariant in
    sym (going_at g (omega arith) refl ∙ tenth_more _ _ _ _ _ (omega (arith, c.type_inv.s (c.args.at + 9))) (omega arith) refl)
