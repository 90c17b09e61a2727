use Prim.Native.Nat.{ℕ, ◌+◌, ◌*◌, ◌%◌, ◌^◌, ◌≤◌, ◌<◌}
use native.Mathlib.Omega.{arith}
use mathlib.Core.Bool.{false}
use lib.Dec.{ltb}
use borrow.Author.Tests.{ltb-false}
use mathlib.Core.Path.{◌≡◌, refl, sym, ◌∙◌}
use mathlib.Core.List.{List, ◌∷◌}
use lib.ListN.{length, get_or, drop}
use Rattle.varint.specs.Leb128.{get_u64, read_from}
use Rattle.varint.specs.Inner.RunSteps.{Passed}
use Rattle.varint.proofs.ReadLaws.{last_first, last_more, more, read_at}
use Rattle.varint.proofs.run.skim_one.Invariants.{Passing}
use Rattle.varint.proofs.run.skim_one.Goals as goal
use Rattle.varint.proofs.run.skim_one.Goals.{then-b-eq0, else-b-eq0}
use Rattle.std.specs.Prelude.{Ok}

passing_start : (s : List ℕ) → Passing s 0
unfolding get_u64
passing_start s = record { nine = omega arith; value = 0; same = refl }

module _ {s : List ℕ} {i : ℕ} (g : Passing s i) (h : i < length s) where
  opened : get_u64 s 0 ≡ read_from (get_or s i 0 ∷ drop (i + 1) s) i i g.value
  opened = g.same ∙ read_at s i i g.value h

  passing_more : 128 ≤ get_or s i 0 → i < 9 → Passing s (i + 1)
  passing_more big n = record { nine = omega arith; value = g.value + get_or s i 0 % 128 * 128 ^ i; same = opened ∙ more _ _ _ _ _ big n }

  ends : {v : ℕ} → read_from (get_or s i 0 ∷ drop (i + 1) s) i i g.value ≡ Ok (v, i + 1) → Passed s (i + 1)
  ends {v} a = record { value = v; is = opened ∙ a }

-- a byte that is not behind another is the first
first_byte : {i : ℕ} → ltb 0 i ≡ false → i ≡ 0
first_byte e = omega (arith, ltb-false _ _ e)

pub loop-i-init : goal.loop-i-init
loop-i-init c = passing_start _

pub loop-i-preserved : goal.loop-i-preserved
loop-i-preserved c = passing_more c.loop-i.invariant (omega arith) c.if-b-lt128.false c.loop-i-test.true

pub returns-else-padded : goal.returns-else-padded
returns-else-padded c =
    let l = c.loop-i in
    let lt = c.if-b-lt128.true in
    elim c.if-b-eq0.branch [
      | then-b-eq0 w ↦ ends l.invariant (omega arith) (last_first _ _ _ _ _ (first_byte (sym w.padded-is ∙ c.if-padded.false)) lt)
      | else-b-eq0 w ↦ ends l.invariant (omega arith) (last_more _ _ _ _ _ lt (omega (arith, w.if-b-eq0.false)) (omega arith))
    ]
