use mathlib.Core.Path.{◌≡◌, sym, ◌∙◌}
use mathlib.Core.List.{List}
use Prim.Native.Nat.{ℕ, ◌+◌, ◌-◌}
use lib.ListN.{length, take, drop, length-drop}
use lib.Seq.{take_all}
use native.Mathlib.Omega.{arith}
use Rattle.std.proofs.lemmas.Result.{err_from_is_err_and}
use Rattle.std.specs.Prelude.{Ok}
use Rattle.varint.specs.Leb128.{get_u64}
use Rattle.varint.proofs.FormatParts.{num_inside}
use Rattle.varint.proofs.ReadLaws.{get_inside}
use Rattle.varint.proofs.RunLaws.{end_none, end_more, end_bad}
use Rattle.varint.proofs.run.skim_next.Goals as goal

-- a varint of bytes that stand from `at` on
inside : (s b : List ℕ) (at : ℕ) {n v : ℕ} → b ≡ take 9 (take (length s - at) (drop at s)) → get_u64 b 0 ≡ Ok (v, n) → get_u64 s at ≡ Ok (v, at + n)
inside s b at e h =
    let all : take (length s - at) (drop at s) ≡ drop at s = take_all _ _ (rw length-drop (omega arith)) in
    get_inside s b at 9 (rw all at e) h

pub overflow_add-result : goal.overflow_add-result
overflow_add-result c =
    let e = inside c.args.s.now _ c.args.at c.in-Some.ensures.cases.same c.in-Some-skim_one.ensures.is in
    let i = num_inside _ _ _ _ e in
    omega (arith, i.1)

pub returns-in-Some-skim_one : goal.returns-in-Some-skim_one
returns-in-Some-skim_one c =
    let e = inside c.args.s.now _ c.args.at c.in-Some.ensures.cases.same c.in-Some-skim_one.ensures.is in
    sym (end_more 1 _ _ (omega arith) e ∙ end_none 0 _ _ (omega arith))

pub returns-in_err-next : goal.returns-in_err-next
returns-in_err-next c =
    let p = err_from_is_err_and c.from_residual.result c.from_residual.ensures.1 in
    rw (p.1, p.2) (sym (end_bad 1 _ _ (omega arith) (sym c.get_u64.ensures ∙ c.in_err-next.was)))

pub returns : goal.returns
returns c = sym (end_more 1 _ _ (omega arith) (sym c.get_u64.ensures ∙ c.in_ok-next.was) ∙ end_none 0 _ _ (omega arith))
