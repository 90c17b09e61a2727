-- A descriptor that was accepted before: so was what stands before each child, and each child.
use mathlib.Core.Bool.{Bool}
use mathlib.Core.Path.{◌≡◌}
use mathlib.Core.List.{List}
use Prim.Native.Nat.{ℕ, suc, ◌+◌, ◌-◌, ◌<◌}
use Rattle.std.specs.Prelude.{Ok, Err}
use Rattle.varint.specs.Got.{Got}
use Rattle.varint.specs.Inner.Again.{Accepted, Again}
use Rattle.varint.specs.Texts.{get_name, span}
use Rattle.varint.specs.declared.text.Span.{Span}
use Rattle.varint.proofs.Agains.{first}
use Rattle.desc.specs.Reading.{head_at, label_on, label_at, with_label, children, desc, named_label}
use Rattle.desc.specs.Trees.{Tree}
use Rattle.desc.specs.declared.head.Head.TheVariants.{Branch}
use Rattle.desc.specs.declared.head.Label.{Label}
use Rattle.desc.proofs.KidLaws.{left_after}
use Rattle.desc.proofs.WalkLaws.{deeper}

labelled : {A : Type 0} (x : Got Label) (f : ℕ → ℕ → ℕ → ℕ → Got A) → Accepted (with_label x f) → Accepted x
labelled (Ok (l, q)) f a = tt
labelled (Err e) f a = a

module _ {check : Bool} (s : List ℕ) where
  -- of a label that was accepted, the name was
  pub label_name : (tag p : ℕ) → Again check (label_at s tag p) → Again check (get_name s p)
  unfolding label_at
  label_name tag p h z = go (get_name s p) (h z)
    where
      go : (x : Got Span) → Accepted (label_on s tag x) → Accepted x
      go (Ok (n, q)) a = tt
      go (Err e) a = a

  -- of a record or a union, the children were
  pub branch_again : (limit depth at : ℕ) {tag n q : ℕ} → (depth ≡ 0 → ⊥) → head_at s at ≡ Ok (Branch tag n, q) → Again check (desc limit depth s at)
      → Again check (children (desc limit (depth - 1) s) s tag n q)
  branch_again limit depth at {tag} {n} {q} z i h y =
      first (children (desc limit (depth - 1) s) s tag n q) _ (rw (deeper limit depth s at z, i) at (h y))

  -- of the children that are left, what stands before the first, the first, and the others
  module _ (rd : ℕ → Got (Tree (List ℕ))) (tag count i p : ℕ) (lt : i < count) (h : Again check (children rd s tag (count - i) p)) where
    split : Again check (children rd s tag (suc (count - (i + 1))) p)
    split = rw (left_after lt) at h

    pub kid_label : Again check (label_at s tag p)
    unfolding children
    kid_label z = labelled (label_at s tag p) _ (split z)

    module _ {from len d body : ℕ} (label : label_at s tag p ≡ Ok (named_label (span from len) d, body)) where
      pub kid_again : Again check (rd body)
      unfolding children
      kid_again z = first (rd body) _ (rw label at (split z))

      pub kids_again : {tr : Tree (List ℕ)} {e : ℕ} → rd body ≡ Ok (tr, e) → Again check (children rd s tag (count - (i + 1)) e)
      unfolding children
      kids_again {e = e} k z = first (children rd s tag (count - (i + 1)) e) _ (rw (label, k) at (split z))
