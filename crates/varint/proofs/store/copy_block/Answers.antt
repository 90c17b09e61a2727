use mathlib.Core.Path.{◌≡◌, refl, sym, ◌∙◌, ap}
use mathlib.Core.List.{List}
use Prim.Native.Nat.{ℕ, ◌+◌, ◌-◌, ◌≤◌, ◌<◌}
use native.Mathlib.Nat.{add-zero, sub-zero}
use native.Mathlib.Omega.{arith}
use lib.ListN.{length, get_or, set, length-set}
use lib.Seq.{sets, get_or-set_same, get_or-set_other}
use borrow.Author.Count.{below_more}
use Rattle.varint.proofs.StoreLaws.{sets_cons, part_step, part_none}
use Rattle.varint.proofs.store.copy_block.Invariants.{Held, Left}
use Rattle.varint.proofs.store.copy_block.Goals as goal

held_step : {s : List ℕ} {from len : ℕ} {block : List ℕ} {i : ℕ} → Held s from len block i → i < 16 → i < len
    → Held s from len (set block i (get_or s (from + i) 0)) (i + 1)
held_step {s} {from} {len} {block} {i} l h t =
    let e = l.size in
    record {
      size = simp length-set l.size;
      inside = omega arith;
      bytes =
          below_more (λ (k : ℕ). get_or (set block i (get_or s (from + i) 0)) k 0 ≡ get_or s (from + k) 0) i
          (λ k m. get_or-set_other block i k _ 0 (omega arith) ∙ l.bytes k m)
          (get_or-set_same block i _ 0 (omega arith));
    }

left_start : (s : List ℕ) (from len : ℕ) (d : List ℕ) (at : ℕ) → Left s from len d at d 0
left_start s from len d at = record { size = refl; inside = omega arith; same = rw (add-zero from, add-zero at, sub-zero) }

left_step : {s : List ℕ} {from len : ℕ} {d₀ : List ℕ} {at : ℕ} {d : List ℕ} {j b : ℕ} → Left s from len d₀ at d j → from + len ≤ length s → j < len
    → b ≡ get_or s (from + j) 0 → Left s from len d₀ at (set d (at + j) b) (j + 1)
left_step {s} {from} {len} {d₀} {at} {d} {j} {b} l h t e =
    let p : at + j + 1 ≡ at + (j + 1) = omega arith in
    record {
      size = simp length-set l.size;
      inside = omega arith;
      same = rw (e, ← p) (sym (sets_cons d (at + j) _ _ _ (part_step s from len j h t)) ∙ l.same);
    }

pub loop-i-init : goal.loop-i-init
loop-i-init c = record { size = refl; inside = omega arith; bytes = λ k h. absurd (omega arith) }

pub loop-i-preserved : goal.loop-i-preserved
loop-i-preserved c =
    let l = c.loop-i in
    let h : l.i < 16 = omega arith in
    held_step l.invariant h c.loop-i-test.true

pub loop-j-init : goal.loop-j-init
loop-j-init c = left_start _ _ _ _ _

pub loop-j-preserved : goal.loop-j-preserved
loop-j-preserved c =
    let l = c.loop-j in
    let first = c.loop-i in
    let s = c.before.before.before.before in
    left_step l.invariant s.requires.1 c.loop-j-test.true (first.invariant.bytes l.j (omega arith))

pub shape_of-dst : goal.shape_of-dst
shape_of-dst c = c.loop-j.invariant.size

pub returns : goal.returns
returns c =
    let l = c.loop-j in
    let a = c.args in
    ap (sets l.dst (a.at + l.j)) (sym (part_none a.src.now (a.from + l.j) (a.len - l.j) (omega arith))) ∙ l.invariant.same
