use mathlib.Core.Path.{◌≡◌, sym, ◌∙◌, ap}
use mathlib.Core.List.{List, [], append-nil}
use Prim.Native.Nat.{ℕ, ◌-◌, ◌≤◌, ◌<◌}
use native.Mathlib.Omega.{arith}
use lib.ListN.{length, take, drop, replicate, length-drop, drop_of_length-le}
use lib.Seq.{take_all}
use borrow.Rule.Slice.PartMut.{put_mid}
use Rattle.varint.specs.Stores.{fill_from}
use Rattle.varint.proofs.store.fill_from.Goals as goal

-- all elements from `at` on are x
filled : {A : Type 0} (x : A) (d items : List A) (at n : ℕ) → at < length d → length items ≡ length (take (length d - at) (drop at d)) → n ≡ length items → take n items ≡ replicate n x
    → put_mid at (length d - at) d items ≡ fill_from x d at
unfolding fill_from
filled x d items at n h s e t =
    let all : take (length d - at) (drop at d) ≡ drop at d = take_all _ _ (rw length-drop (omega arith)) in
    let k : length items ≡ length d - at = s ∙ rw (all, length-drop) in
    let long : length (drop at d) ≡ length d - at = length-drop at d in
    let end : drop (length d - at) (drop at d) ≡ [] = drop_of_length-le (drop at d) (omega arith) in
    let front : take n items ≡ items = take_all n items (omega arith) in
    let same : items ≡ replicate (length d - at) x = sym front ∙ t ∙ ap (λ (m : ℕ). replicate m x) (e ∙ k) in
    rw (end, append-nil, same)

past : {A : Type 0} (x : A) (d : List A) (at : ℕ) → length d ≤ at → d ≡ fill_from x d at
unfolding fill_from
past x d at h = let z : length d - at ≡ 0 = omega arith in rw (z, append-nil) (sym (take_all at d h))

pub returns-after-loop-place : goal.returns-after-loop-place
returns-after-loop-place g c =
    let l = c.loop-place in
    filled c.args.x c.args.out.now l.place-items c.args.at l.place-index (omega arith) l.invariant.size (omega (arith, c.loop-place-test.false, l.invariant.size, l.invariant.room)) l.invariant.done

pub returns-else-at-out : goal.returns-else-at-out
unfolding fill_from
returns-else-at-out g c = past c.args.x c.args.out.now c.args.at (omega (arith, c.if-at-out.false))
