use borrow.Author.Tests.{le-ltb}
use mathlib.Core.Path.{◌≡◌}
use mathlib.Core.List.{List}
use Prim.Native.Nat.{ℕ, ◌+◌, ◌-◌, ◌≤◌}
use native.Mathlib.Omega.{arith}
use lib.ListN.{length, take, drop, length-drop}
use lib.Seq.{take_all}
use Rattle.std.specs.Prelude.{Ok}
use Rattle.varint.specs.Inner.Taking.{taken}
use Rattle.varint.specs.Stores.{part}
use Rattle.varint.proofs.fixed.take.Goals as goal

-- the first n bytes of those from `at` on
whole : (s : List ℕ) (at n : ℕ) {b : List ℕ} → n ≤ length (take (length s - at) (drop at s)) → b ≡ take n (take (length s - at) (drop at s)) → Ok (b, at + n) ≡ taken n s at
unfolding part
whole s at n h e =
    let all : take (length s - at) (drop at s) ≡ drop at s = take_all _ _ (rw length-drop (omega arith)) in
    let k : n ≤ length s - at = rw (all, length-drop) at h in
    rw (le-ltb _ _ k, e, all)

pub returns-in-Some : goal.returns-in-Some
unfolding part
returns-in-Some g c =
    let f = c.in-Some.ensures.cases in
    whole c.args.s.now c.args.at g.row.N f.enough f.same
