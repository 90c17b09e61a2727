use mathlib.Core.Path.{◌≡◌, refl, sym, ◌∙◌}
use Rattle.desc.specs.declared.write.Emitted.{Emitted}
use Prim.Native.Nat.{◌<◌}
use native.Mathlib.Omega.{arith}
use lib.ListN.{length}
use Rattle.std.proofs.lemmas.Result.{err_from_is_err_and}
use Rattle.desc.proofs.EmitEncode.{encode_refused, encode_big, encode_small, encode_done}
use Rattle.desc.proofs.EmitPut.{laid_out}
use Rattle.desc.proofs.EmitWhole.{layout_bad, names_bad, whole}
use Rattle.desc.proofs.write.encode_desc.Goals as goal
use Rattle.std.specs.Prelude.{Some, None, Option}

-- no answer is none
only_none : (x : Option Emitted) → ((e : Emitted) → x ≡ Some e → ⊥) → x ≡ None
only_none None h = refl
only_none (Some e) h = absurd (h e refl)

pub returns-then-place-gt-MAX_PAYLOAD : goal.returns-then-place-gt-MAX_PAYLOAD
returns-then-place-gt-MAX_PAYLOAD c =
    let a = c.args in
    rw c.too_large.ensures
    (encode_big 67108864 64 a.text.now a.nodes.now a.out.now _ _ (whole a.text.now a.nodes.now 64 0 _ c.size_desc.ensures _ _ _ c.in-Some.is c.check_names.ensures c.in_ok-check_names.was) c.if-place-gt-MAX_PAYLOAD.true)

pub returns-then-out-place : goal.returns-then-out-place
returns-then-out-place c =
    let a = c.args in
    rw c.too_small.ensures
    (encode_small 67108864 64 a.text.now a.nodes.now a.out.now _ _ (whole a.text.now a.nodes.now 64 0 _ c.size_desc.ensures _ _ _ c.in-Some.is c.check_names.ensures c.in_ok-check_names.was) c.if-place-gt-MAX_PAYLOAD.false (omega arith) c.if-out-place.true)

pub returns-in_default : goal.returns-in_default
returns-in_default c =
    let a = c.args in
    encode_refused 67108864 64 a.text.now a.nodes.now a.out.now _ (layout_bad a.text.now a.nodes.now 64 0 _ c.size_desc.ensures (only_none _ c.in_default.not-Some))

pub returns-in_err-check_names : goal.returns-in_err-check_names
returns-in_err-check_names c =
    let a = c.args in
    let p = err_from_is_err_and c.from_residual.result c.from_residual.ensures.1 in
    rw (p.1, p.2) (encode_refused 67108864 64 a.text.now a.nodes.now a.out.now _ (names_bad a.text.now a.nodes.now 64 0 _ c.size_desc.ensures _ _ _ c.in-Some.is c.check_names.ensures _ c.in_err-check_names.was))

pub put_desc-requires : goal.put_desc-requires
put_desc-requires c = laid_out _ (sym c.in-Some.is ∙ c.size_desc.ensures)

pub returns : goal.returns
returns c =
    let a = c.args in
    let l : length a.out.now < 18446744073709551616 = omega arith in
    encode_done 67108864 64 a.text.now a.nodes.now a.out.now _ _ (whole a.text.now a.nodes.now 64 0 _ c.size_desc.ensures _ _ _ c.in-Some.is c.check_names.ensures c.in_ok-check_names.was) c.if-place-gt-MAX_PAYLOAD.false (omega arith) _ _ l c.if-out-place.false c.put_desc.ensures c.fill_from.ensures
