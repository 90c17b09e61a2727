-- Which number names which message.
use mathlib.Core.Bool.{true, false}
use mathlib.Core.Logic.{⊎_elim}
use mathlib.Core.Path.{◌≡◌, refl}
use Prim.Native.Nat.{ℕ, ◌≤◌, ◌<◌}
use native.Mathlib.Omega.{arith}
use lib.Dec.{eqb}
use borrow.Author.Tests.{ne_eqb}
use Rattle.std.specs.Prelude.{Option, None, Some}
use Rattle.std.proofs.lemmas.Bool.Decides.{eqb_tells}
use Rattle.varint.specs.Choice.{pick}
use Rattle.protocol.specs.Entries.{entry_number, entry_of}
use Rattle.protocol.specs.Inner.Loading.{Opaque}
use Rattle.protocol.specs.declared.entry.Entry.{Entry}

-- one step of the search for the entry: the number is k's, or it is looked for among the rest
found : (n k : ℕ) (x e : Entry) (rest : Option Entry) → entry_number x ≡ k → (rest ≡ Some e → entry_number e ≡ n) → pick (eqb n k) (Some x) rest ≡ Some e → entry_number e ≡ n
found n k x e rest h go i =
    ⊎_elim (λ (z : (eqb n k ≡ true) × (n ≡ k)). let s : Some x ≡ Some e = rw z.0 at i in let y : x ≡ e = cc (s) in rw (← y, z.1) h)
    (λ (z : (eqb n k ≡ false) × (n ≡ k → ⊥)). go (rw z.0 at i)) (eqb_tells n k)

missed : (n k : ℕ) (x : Entry) (rest : Option Entry) → pick (eqb n k) (Some x) rest ≡ None → (n ≡ k → ⊥) × (rest ≡ None)
missed n k x rest i =
    ⊎_elim (λ (z : (eqb n k ≡ true) × (n ≡ k)). let s : Some x ≡ None = rw z.0 at i in absurd (cc (s)))
    (λ (z : (eqb n k ≡ false) × (n ≡ k → ⊥)). (z.1, rw z.0 at i)) (eqb_tells n k)

-- the entry that a number names has that number
pub entry_named : (n : ℕ) (e : Entry) → entry_of n ≡ Some e → entry_number e ≡ n
entry_named n e =
    found n 1 _ e _ refl (found n 2 _ e _ refl (found n 3 _ e _ refl (found n 4 _ e _ refl (found n 5 _ e _ refl (found n 6 _ e _ refl
    (found n 7 _ e _ refl (found n 8 _ e _ refl (found n 9 _ e _ refl (found n 10 _ e _ refl (found n 11 _ e _ refl (found n 12 _ e _ refl
    (λ i. absurd (cc (i))))))))))))))

pub entry_none : (n : ℕ) → entry_of n ≡ None → Opaque n
entry_none n i =
    let a = missed n 1 _ _ i in
    let b = missed n 2 _ _ a.1 in
    let c = missed n 3 _ _ b.1 in
    let d = missed n 4 _ _ c.1 in
    let e = missed n 5 _ _ d.1 in
    let f = missed n 6 _ _ e.1 in
    let g = missed n 7 _ _ f.1 in
    let h = missed n 8 _ _ g.1 in
    let j = missed n 9 _ _ h.1 in
    let k = missed n 10 _ _ j.1 in
    let l = missed n 11 _ _ k.1 in
    let m = missed n 12 _ _ l.1 in
    grind (arith, a.0, b.0, c.0, d.0, e.0, f.0, g.0, h.0, j.0, k.0, l.0, m.0)

-- what names no message is none of the twelve
pub entry_differs : (n : ℕ) → entry_of n ≡ None → (k : ℕ) → 0 < k → k ≤ 12 → eqb n k ≡ false
entry_differs n i k a b =
    ne_eqb n k (λ (e : n ≡ k). ⊎_elim (λ (z : n ≡ 0). absurd (omega arith)) (λ (z : 12 < n). absurd (omega arith)) (entry_none n i))
