-- Each byte of text and each node of a descriptor costs a byte that was read.
use mathlib.Core.Path.{◌≡◌}
use mathlib.Core.List.{List}
use Prim.Native.Nat.{ℕ, ◌+◌, ◌≤◌}
use native.Mathlib.Omega.{arith}
use lib.ListN.{length, length-append}
use Rattle.varint.specs.Stores.{part}
use Rattle.varint.proofs.StoreLaws.{length_part}
use Rattle.desc.specs.Layout.{texts, kid_texts}
use Rattle.desc.specs.Reading.{desc}
use Rattle.desc.specs.Trees.{Tree, Kids, size, kid_size}
use Rattle.desc.proofs.GotAs.{got_as}
use Rattle.desc.proofs.HeadLaws.{leaf_inside, branch_inside, label_inside}
use Rattle.desc.proofs.ReadInduction.{Steps, desc_as}
use Rattle.std.specs.Prelude.{Ok}

module _ (limit : ℕ) (s : List ℕ) where
  -- a descriptor, or parts of one, read from a place inside
  abbrev Fits : ℕ → Tree (List ℕ) → ℕ → Type 0
  Fits at tr q = at ≤ length s → (at + (length (texts tr) + size tr) ≤ q) × (q ≤ length s)

  abbrev KidsFit : ℕ → Kids (List ℕ) → ℕ → Type 0
  KidsFit p ks q = p ≤ length s → (p + (length (kid_texts ks) + kid_size ks) ≤ q) × (q ≤ length s)

  steps : Steps limit s (λ depth at tr q. Fits at tr q) (λ depth tag n p ks q. KidsFit p ks q)
  unfolding texts size
  steps =
      record {
        on_leaf = λ depth at tag p next i h. let w = leaf_inside s at tag p next i in let w₀ = w.0 in (omega arith, w.1);
        on_branch = λ depth at tag n next ks e i k h.
            let w = branch_inside s at tag n next i in
            let w₀ = w.0 in
            let f = k w.1 in
            let f₀ = f.0 in
            (omega arith, f.1);
        on_none = λ depth tag p h. (omega arith, h);
        on_more = λ depth tag n p start len d q t e ks f i a k h.
            let w = label_inside s tag p start len d q i in
            let w₀ = w.0 in
            let w₁ = w.1 in
            let w₂ = w.2 in
            let x = a w₂ in
            let x₀ = x.0 in
            let y = k x.1 in
            let y₀ = y.0 in
            let l : length (part s start len) ≡ len = length_part s start len (omega arith) in
            (simp (length-append, l) (omega arith), y.1);
      }

-- a descriptor of n bytes has at most n bytes of text and nodes together
pub desc_bounds : (limit depth : ℕ) (s : List ℕ) (at : ℕ) (tr : Tree (List ℕ)) (q : ℕ)
    → at ≤ length s → desc limit depth s at ≡ Ok (tr, q) → (at + (length (texts tr) + size tr) ≤ q) × (q ≤ length s)
desc_bounds limit depth s at tr q h e =
    got_as (Fits limit s at) (desc limit depth s at) tr q (desc_as limit s _ _ (steps limit s) depth at) e h
