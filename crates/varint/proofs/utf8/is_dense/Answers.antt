use Prim.Native.Nat.{ℕ, ◌+◌, ◌-◌, ◌≤◌}
use native.Mathlib.Omega.{arith}
use mathlib.Core.Bool.{true}
use mathlib.Core.Path.{◌≡◌, sym, ◌∙◌, ap}
use mathlib.Core.List.{List}
use lib.ListN.{length, take, drop}
use Rattle.std.proofs.lemmas.List.{take_all, length-drop}
use Rattle.varint.specs.Utf8.{utf8}
use Rattle.varint.specs.Inner.Utf8Steps.{Passed}
use Rattle.varint.proofs.Utf8Laws.{utf8_end, utf8_behind, passed_on}
use Rattle.varint.proofs.Utf8Std.{utf8_is, ok_utf8_told}
use Rattle.varint.proofs.utf8.is_dense.Goals as goal

-- a slice from a place on is all that is left there
all_left : (s : List ℕ) (at : ℕ) → take (length s - at) (drop at s) ≡ drop at s
all_left s at = take_all (length s - at) (drop at s) (omega (arith, length-drop at s))

-- a part that is UTF-8 was passed
part_passed : (s : List ℕ) (p q : ℕ) → p ≤ q → q ≤ length s → utf8 (take (q - p) (drop p s)) ≡ true → Passed s p q
part_passed s p q h l t =
    let e : p + (q - p) ≡ q = omega arith in
    record { ahead = h; ends = l; same = utf8_behind s p (q - p) t ∙ ap (λ (k : ℕ). utf8 (drop k s)) e }

pub returns-then-not-is_utf8 : goal.returns-then-not-is_utf8
returns-then-not-is_utf8 c =
    c.is_ok.ensures.value ∙ ok_utf8_told _ _ _ _ c.from_utf8.ensures.cases ∙ ap utf8 (all_left c.args.s.now c.loop-at.at) ∙ sym c.loop-at.invariant.same

pub loop-at-preserved : goal.loop-at-preserved
loop-at-preserved c =
    passed_on _ c.loop-at.invariant (part_passed c.args.s.now c.loop-at.at c.part_end-end.result (omega arith) (omega arith) (utf8_is _ (c.is_utf8.ensures.0 c.if-not-is_utf8.false)))

pub returns : goal.returns
returns c = sym (c.loop-at.invariant.same ∙ utf8_end _ c.loop-at.at c.loop-at-test.false)
