-- Only what is printed is read: where a descriptor is read from bytes, they are those that it is written as. One encoding a tree.
use mathlib.Core.Bool.{true, false, ◌||◌}
use mathlib.Core.Path.{◌≡◌, refl, sym, ap}
use mathlib.Core.List.{List, [], ◌++◌, append_assoc, append-nil}
use Prim.Native.Nat.{ℕ, suc, ◌-◌, ◌≤◌}
use native.Mathlib.Nat.{add-zero}
use lib.Dec.{ltb, eqb}
use lib.ListN.{length}
use borrow.Author.Tests.{eqb-true}
use Rattle.varint.specs.Choice.{pick}
use Rattle.varint.specs.Formats.{got_text, print_text}
use Rattle.varint.specs.Leb128.{get_u64, put_u64}
use Rattle.varint.specs.RoundTrips.{Bytes, Stands}
use Rattle.varint.specs.Stores.{part}
use Rattle.varint.specs.Texts.{get_name}
use Rattle.varint.proofs.Basics.{pick_cases}
use Rattle.varint.proofs.FormatForth.{joined, varint_forth, name_forth}
use Rattle.desc.specs.declared.head.Head.{Head}
use Rattle.desc.specs.declared.head.Head.TheVariants.{Leaf, Branch}
use Rattle.desc.specs.declared.head.Label.{Label}
use Rattle.desc.specs.Printing.{print, print_kids}
use Rattle.desc.specs.Reading.{fact_on, count_on, head_on, head_at, discriminant_on, label_on, label_at, desc}
use Rattle.desc.specs.Trees.{Tree, leaf, branch, Kids, more, kid_count}
use Rattle.desc.proofs.GotAs.{got_as}
use Rattle.desc.proofs.ReadInduction.{Steps, desc_as}
use Rattle.std.specs.Prelude.{Ok, Err}
use Rattle.varint.specs.Got.{Got}
use Rattle.varint.specs.declared.text.Span.{Span}

module _ (s : List ℕ) (B : Bytes s) where
  number : (at n q : ℕ) → at ≤ length s → get_u64 s at ≡ Ok (n, q) → Stands (put_u64 n) s at q
  number at n q h e = varint_forth.forth s at n q B h e

  -- The start of a descriptor

  abbrev HeadStands : ℕ → Got Head → Type 0
  HeadStands at (Ok (Leaf tag p, next)) = Stands (print (leaf tag p)) s at next
  HeadStands at (Ok (Branch tag n, next)) = Stands (put_u64 tag ++ put_u64 n) s at next
  HeadStands at (Err e) = Unit

  fact_stands : (at next : ℕ) → Stands (put_u64 2) s at next → (r : Got ℕ) → get_u64 s next ≡ r → HeadStands at (fact_on r)
  unfolding print
  fact_stands at next t (Err e) i = tt
  fact_stands at next t (Ok (n, q)) i =
      pick_cases (HeadStands at) (ltb 0xFFFFFFFF n) (λ _. tt)
      (λ _. joined (put_u64 2) (put_u64 n) s at next q t (number next n q t.inside i))

  count_stands : (at next tag : ℕ) → Stands (put_u64 tag) s at next → (r : Got ℕ) → get_u64 s next ≡ r → HeadStands at (count_on s at tag r)
  count_stands at next tag t (Err e) i = tt
  count_stands at next tag t (Ok (n, q)) i =
      pick_cases (HeadStands at) (ltb (length s - at) n) (λ _. tt)
      (λ _. joined (put_u64 tag) (put_u64 n) s at next q t (number next n q t.inside i))

  leaf_stands : (at next tag : ℕ) → Stands (put_u64 tag) s at next → eqb tag 2 ≡ false → Stands (print (leaf tag 0)) s at next
  unfolding print
  leaf_stands at next tag t e = rw (e, append-nil) t

  head_stands : (at : ℕ) → at ≤ length s → HeadStands at (head_at s at)
  unfolding head_at
  head_stands at h = go (get_u64 s at) refl
    where
      go : (r : Got ℕ) → get_u64 s at ≡ r → HeadStands at (head_on s at r)
      go (Err e) i = tt
      go (Ok (tag, next)) i =
          let t = number at tag next h i in
          pick_cases (HeadStands at) (eqb tag 2) (λ e. fact_stands at next (rw (eqb-true tag 2 e) at t) (get_u64 s next) refl)
          (λ e.
          pick_cases (HeadStands at) (eqb tag 3 || eqb tag 4) (λ _. count_stands at next tag t (get_u64 s next) refl)
          (λ _. pick_cases (HeadStands at) (ltb 5 tag) (λ _. tt) (λ _. leaf_stands at next tag t e)))

  -- What stands before a part

  abbrev LabelStands : ℕ → ℕ → Got Label → Type 0
  LabelStands tag p (Ok (l, next)) = Stands (print_text (part s l.name.start l.name.len) ++ pick (eqb tag 4) (put_u64 l.discriminant) []) s p next
  LabelStands tag p (Err e) = Unit

  label_stands : (tag p : ℕ) → p ≤ length s → LabelStands tag p (label_at s tag p)
  unfolding label_at
  label_stands tag p h = go (get_name s p) refl
    where
      some : (a : Span) (next : ℕ) → eqb tag 4 ≡ true → Stands (print_text (part s a.start a.len)) s p next → (r : Got ℕ) → get_u64 s next ≡ r
          → LabelStands tag p (discriminant_on a r)
      some a next e t (Err f) i = tt
      some a next e t (Ok (d, q)) i =
          pick_cases (LabelStands tag p) (ltb 0xFFFFFFFF d) (λ _. tt)
          (λ _. rw e (joined (print_text (part s a.start a.len)) (put_u64 d) s p next q t (number next d q t.inside i)))

      go : (x : Got Span) → get_name s p ≡ x → LabelStands tag p (label_on s tag x)
      go (Err e) i = tt
      go (Ok (a, next)) i =
          let t = name_forth.forth s p (part s a.start a.len) next B h (ap (got_text s) i) in
          pick_cases (LabelStands tag p) (eqb tag 4) (λ e. some a next e t (get_u64 s next) refl) (λ e. rw (e, append-nil) t)

  -- Descriptors

  more_stands : (tag p q e f : ℕ) (x : List ℕ) (d : ℕ) (t : Tree (List ℕ)) (ks : Kids (List ℕ))
      → Stands (print_text x ++ pick (eqb tag 4) (put_u64 d) []) s p q → Stands (print t) s q e → Stands (print_kids tag ks) s e f
      → Stands (print_kids tag (more x d t ks)) s p f
  unfolding print
  more_stands tag p q e f x d t ks a b c =
      rw (← append_assoc (print_text x) (pick (eqb tag 4) (put_u64 d) []) (print t ++ print_kids tag ks))
      (joined (print_text x ++ pick (eqb tag 4) (put_u64 d) []) (print t ++ print_kids tag ks) s p q f a (joined (print t) (print_kids tag ks) s q e f b c))

  branch_stands : (tag at next q : ℕ) (ks : Kids (List ℕ)) → Stands (put_u64 tag ++ put_u64 (kid_count ks)) s at next
      → Stands (print_kids tag ks) s next q → Stands (print (branch tag ks)) s at q
  unfolding print
  branch_stands tag at next q ks a b =
      rw (← append_assoc (put_u64 tag) (put_u64 (kid_count ks)) (print_kids tag ks))
      (joined (put_u64 tag ++ put_u64 (kid_count ks)) (print_kids tag ks) s at next q a b)

  stand_steps : (limit : ℕ)
      → Steps limit s (λ depth at tr q. at ≤ length s → Stands (print tr) s at q)
      (λ depth tag n p ks e. p ≤ length s → (kid_count ks ≡ n) × Stands (print_kids tag ks) s p e)
  unfolding kid_count print
  stand_steps limit =
      record {
        on_leaf = λ depth at tag p next i l. rw i at (head_stands at l);
        on_branch = λ depth at tag n next ks e i k l.
            let h = rw i at (head_stands at l) in
            let g = k h.inside in
            branch_stands tag at next e ks (rw g.0 h) g.1;
        on_none = λ depth tag p l. (refl, record { bytes = refl; next = sym (add-zero p); inside = l });
        on_more = λ depth tag n p start len d q t e ks f i a k l.
            let b = rw i at (label_stands tag p l) in
            let c = a b.inside in
            let g = k c.inside in
            (ap suc g.0, more_stands tag p q e f (part s start len) d t ks b c g.1);
      }

-- what was read stands there as it is printed
pub print_read : (limit depth : ℕ) (s : List ℕ) (at : ℕ) (tr : Tree (List ℕ)) (q : ℕ) → Bytes s → at ≤ length s
    → desc limit depth s at ≡ Ok (tr, q) → Stands (print tr) s at q
print_read limit depth s at tr q B l e =
    got_as (λ t r. at ≤ length s → Stands (print t) s at r) (desc limit depth s at) tr q (desc_as limit s _ _ (stand_steps s B limit) depth at) e l
