-- Where the start of a descriptor ends, and where a child's name lies: inside the bytes, and past the place where reading began.
use mathlib.Core.Bool.{◌||◌}
use mathlib.Core.Path.{◌≡◌}
use mathlib.Core.List.{List}
use Prim.Native.Nat.{ℕ, ◌+◌, ◌-◌, ◌≤◌, ◌<◌}
use native.Mathlib.Omega.{arith}
use lib.Dec.{ltb, eqb}
use lib.ListN.{length}
use Rattle.varint.specs.Leb128.{get_u64}
use Rattle.varint.specs.Texts.{get_name, span}
use Rattle.varint.proofs.Basics.{pick_both}
use Rattle.varint.proofs.Agains.{name_ends}
use Rattle.varint.proofs.TextLaws.{TextEnds}
use Rattle.varint.proofs.ReadLaws.{Ends, get_ends}
use Rattle.desc.specs.declared.head.Head.{Head}
use Rattle.desc.specs.declared.head.Head.TheVariants.{Leaf, Branch}
use Rattle.desc.specs.declared.head.Label.{Label}
use Rattle.desc.specs.Reading.{fact_on, count_on, head_on, head_at, discriminant_on, label_on, label_at, named_label}
use Rattle.std.specs.Prelude.{Ok, Err}
use Rattle.varint.specs.Got.{Got}
use Rattle.varint.specs.declared.text.Span.{Span}

-- past the place lo, and at most at hi
abbrev pub HeadEnds : ℕ → ℕ → Got Head → Type 0
HeadEnds lo hi (Ok (Leaf tag p, next)) = (lo < next) × (next ≤ hi)
HeadEnds lo hi (Ok (Branch tag n, next)) = (lo < next) × (next ≤ hi)
HeadEnds lo hi (Err r) = Unit

abbrev pub LabelEnds : ℕ → ℕ → Got Label → Type 0
LabelEnds lo hi (Ok (l, next)) = (lo < l.name.start) × (l.name.start + l.name.len ≤ next) × (next ≤ hi)
LabelEnds lo hi (Err r) = Unit

fact_ends : (x : Got ℕ) (lo p hi : ℕ) → lo < p → Ends p hi x → HeadEnds lo hi (fact_on x)
fact_ends (Ok (n, next)) lo p hi h e = pick_both (HeadEnds lo hi) (ltb 0xFFFFFFFF n) tt (omega arith, e.1)
fact_ends (Err r) lo p hi h e = tt

count_ends : (s : List ℕ) (at tag : ℕ) (x : Got ℕ) (lo p hi : ℕ) → lo < p → Ends p hi x → HeadEnds lo hi (count_on s at tag x)
count_ends s at tag (Ok (n, next)) lo p hi h e = pick_both (HeadEnds lo hi) (ltb (length s - at) n) tt (omega arith, e.1)
count_ends s at tag (Err r) lo p hi h e = tt

pub head_ends : (s : List ℕ) (at : ℕ) → HeadEnds at (length s) (head_at s at)
unfolding head_at
head_ends s at = on (get_u64 s at) (get_ends s at)
  where
    on : (x : Got ℕ) → Ends at (length s) x → HeadEnds at (length s) (head_on s at x)
    on (Ok (tag, next)) e =
        let P : Got Head → Type 0 = HeadEnds at (length s) in
        let g = get_ends s next in
        pick_both P (eqb tag 2) (fact_ends (get_u64 s next) at next (length s) e.0 g)
        (pick_both P (eqb tag 3 || eqb tag 4) (count_ends s at tag (get_u64 s next) at next (length s) e.0 g)
        (pick_both P (ltb 5 tag) tt e))
    on (Err r) e = tt

discriminant_ends : (t : Span) (x : Got ℕ) (lo p hi : ℕ) → lo < t.start → t.start + t.len ≤ p → Ends p hi x → LabelEnds lo hi (discriminant_on t x)
discriminant_ends t (Ok (d, next)) lo p hi h k e =
    let e₀ = e.0 in
    pick_both (LabelEnds lo hi) (ltb 0xFFFFFFFF d) tt (h, omega arith, e.1)
discriminant_ends t (Err r) lo p hi h k e = tt

pub label_ends : (s : List ℕ) (tag p : ℕ) → LabelEnds p (length s) (label_at s tag p)
unfolding label_at
label_ends s tag p = on (get_name s p) (name_ends s p)
  where
    on : (x : Got Span) → TextEnds p (length s) x → LabelEnds p (length s) (label_on s tag x)
    on (Ok (t, next)) e =
        let e₁ = e.1 in
        let le : t.start + t.len ≤ next = omega arith in
        pick_both (LabelEnds p (length s)) (eqb tag 4)
        (discriminant_ends t (get_u64 s next) p next (length s) e.0 le (get_ends s next))
        (e.0, le, e.2)
    on (Err r) e = tt

-- of a start or a label that is known
pub leaf_inside : (s : List ℕ) (at tag p q : ℕ) → head_at s at ≡ Ok (Leaf tag p, q) → (at < q) × (q ≤ length s)
leaf_inside s at tag p q e = rw e at (head_ends s at)

pub branch_inside : (s : List ℕ) (at tag n q : ℕ) → head_at s at ≡ Ok (Branch tag n, q) → (at < q) × (q ≤ length s)
branch_inside s at tag n q e = rw e at (head_ends s at)

pub head_inside : (s : List ℕ) (at q : ℕ) (h : Head) → head_at s at ≡ Ok (h, q) → (at < q) × (q ≤ length s)
head_inside s at q (Leaf tag p) e = leaf_inside s at tag p q e
head_inside s at q (Branch tag n) e = branch_inside s at tag n q e

pub label_inside : (s : List ℕ) (tag p start n d q : ℕ)
    → label_at s tag p ≡ Ok (named_label (span start n) d, q) → (p < start) × (start + n ≤ q) × (q ≤ length s)
label_inside s tag p start n d q e = rw e at (label_ends s tag p)
