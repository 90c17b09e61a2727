-- How many children a node has.
use mathlib.Core.Path.{◌≡◌, refl, ap}
use mathlib.Core.List.{List}
use Prim.Native.Nat.{ℕ, zero, suc}
use Rattle.varint.specs.Got.{Got, then}
use Rattle.desc.specs.Layout.{NameSpan}
use Rattle.desc.specs.Table.{cell, kids_at}
use Rattle.desc.specs.Trees.{Tree, Kids, more, kid_count}
use Rattle.std.specs.Prelude.{Ok, Err}

abbrev Counts : ℕ → Got (Kids NameSpan) → Type 0
Counts k (Ok (ks, e)) = kid_count ks ≡ k
Counts k (Err e) = Unit

one_more : (name : NameSpan) (d : ℕ) (k : ℕ) (D : Got (Tree NameSpan)) (K : ℕ → Got (Kids NameSpan)) → ((e : ℕ) → Counts k (K e))
    → Counts (suc k) (then D (λ t e. then (K e) (λ ks f. Ok (more name d t ks, f))))
unfolding kid_count
one_more name d k (Err e) K h = tt
one_more name d k (Ok (t, e)) K h = go (K e) (h e)
  where
    go : (G : Got (Kids NameSpan)) → Counts k G → Counts (suc k) (then G (λ ks f. Ok (more name d t ks, f)))
    go (Ok (ks, f)) c = ap suc c
    go (Err x) c = tt

counts : (r : ℕ → ℕ → Got (Tree NameSpan)) (nd : List ℕ) (tag k m : ℕ) → Counts k (kids_at r nd tag k m)
unfolding kids_at kid_count
counts r nd tag zero m = refl
counts r nd tag (suc k) m = one_more (cell nd m 1, cell nd m 2) (cell nd m 3) k (r m tag) (kids_at r nd tag k) (counts r nd tag k)

pub kid_count_lem : (r : ℕ → ℕ → Got (Tree NameSpan)) (nd : List ℕ) (tag k m e : ℕ) (ks : Kids NameSpan) → kids_at r nd tag k m ≡ Ok (ks, e) → kid_count ks ≡ k
kid_count_lem r nd tag k m e ks h = rw h at (counts r nd tag k m)
