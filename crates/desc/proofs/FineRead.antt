-- Whatever is read can be written: a tree that was read from bytes is a descriptor of no more levels than were allowed.
use mathlib.Core.Bool.{◌||◌}
use mathlib.Core.Path.{◌≡◌, refl, ap}
use mathlib.Core.List.{List}
use Prim.Native.Nat.{ℕ, suc, ◌-◌, ◌^◌, ◌<◌}
use native.Mathlib.Omega.{arith}
use lib.Dec.{ltb, eqb}
use lib.ListN.{length}
use borrow.Author.Tests.{ltb-false, eqb-false}
use Rattle.varint.specs.Leb128.{get_u64}
use Rattle.varint.specs.RoundTrips.{TextOk}
use Rattle.varint.specs.Stores.{part}
use Rattle.varint.specs.Texts.{get_name, span}
use Rattle.varint.proofs.Basics.{pick_cases}
use Rattle.varint.proofs.FormatParts.{text_at, text_length, get_name_lem}
use Rattle.varint.proofs.VarintLaws.{get_bound}
use Rattle.desc.specs.declared.head.Head.{Head}
use Rattle.desc.specs.declared.head.Head.TheVariants.{Leaf, Branch}
use Rattle.desc.specs.declared.head.Label.{Label}
use Rattle.desc.specs.Reading.{fact_on, count_on, head_on, head_at, discriminant_on, label_on, label_at, desc}
use Rattle.desc.specs.Trees.{Tree, kid_count}
use Rattle.desc.specs.WellFormed.{LeafOk, fact, BranchOk, record_type, union_type, LabelOk, field, alternative, Fine, FineKids}
use Rattle.desc.proofs.GotAs.{got_as}
use Rattle.desc.proofs.ReadInduction.{Steps, desc_as}
use Rattle.desc.proofs.Tags.{plain_leaf, branch_ok, no_branch}
use Rattle.std.specs.Prelude.{Ok, Err}
use Rattle.varint.specs.Got.{Got}
use Rattle.varint.specs.declared.text.Span.{Span}

-- The start of a descriptor

abbrev HeadOk : Got Head → Type 0
HeadOk (Ok (Leaf tag p, next)) = LeafOk tag p
HeadOk (Ok (Branch tag n, next)) = BranchOk tag × (n < 2 ^ 64)
HeadOk (Err e) = Unit

fact_ok : (r : Got ℕ) → HeadOk (fact_on r)
fact_ok (Err e) = tt
fact_ok (Ok (n, next)) = pick_cases HeadOk (ltb 0xFFFFFFFF n) (λ _. tt) (λ e. let h = ltb-false 0xFFFFFFFF n e in fact (omega arith))

count_ok : (s : List ℕ) (at tag : ℕ) → BranchOk tag → (r : Got ℕ) → ((n q : ℕ) → r ≡ Ok (n, q) → n < 2 ^ 64)
    → HeadOk (count_on s at tag r)
count_ok s at tag b (Err e) h = tt
count_ok s at tag b (Ok (n, next)) h = pick_cases HeadOk (ltb (length s - at) n) (λ _. tt) (λ _. (b, h n next refl))

head_ok : (s : List ℕ) (at : ℕ) → HeadOk (head_at s at)
unfolding head_at
head_ok s at = go (get_u64 s at)
  where
    go : (r : Got ℕ) → HeadOk (head_on s at r)
    go (Err e) = tt
    go (Ok (tag, next)) =
        pick_cases HeadOk (eqb tag 2) (λ _. fact_ok (get_u64 s next))
        (λ a.
        pick_cases HeadOk (eqb tag 3 || eqb tag 4) (λ b. count_ok s at tag (branch_ok tag b) (get_u64 s next) (get_bound s next))
        (λ b.
        let n = no_branch tag b in
        pick_cases HeadOk (ltb 5 tag) (λ _. tt) (λ c. plain_leaf tag (ltb-false 5 tag c) (eqb-false tag 2 a) n.0 n.1)))

-- What stands before a part

abbrev LabelIs : List ℕ → ℕ → Got Label → Type 0
LabelIs s tag (Ok (l, next)) = TextOk (part s l.name.start l.name.len) × LabelOk tag l.discriminant
LabelIs s tag (Err e) = Unit

name_ok : (s : List ℕ) (p start n q : ℕ) → get_name s p ≡ Ok (span start n, q) → TextOk (part s start n)
name_ok s p start n q e =
    let i = rw get_name_lem at e in
    let t = text_at s p start n q i in
    (rw (text_length s p start n q i) (get_bound s p n start t.size), t.valid)

label_ok : (s : List ℕ) (p : ℕ) {tag : ℕ} → BranchOk tag → LabelIs s tag (label_at s tag p)
unfolding label_at
label_ok s p b = go b (get_name s p) refl
  where
    some : (a : Span) (r : Got ℕ) → TextOk (part s a.start a.len) → LabelIs s 4 (discriminant_on a r)
    some a (Err e) t = tt
    some a (Ok (d, next)) t =
        pick_cases (LabelIs s 4) (ltb 0xFFFFFFFF d) (λ _. tt) (λ e. let h = ltb-false 0xFFFFFFFF d e in (t, alternative (omega arith)))

    go : {tag : ℕ} → BranchOk tag → (x : Got Span) → get_name s p ≡ x → LabelIs s tag (label_on s tag x)
    go b (Err e) i = tt
    go record_type (Ok (a, q)) i = (name_ok s p a.start a.len q i, field)
    go union_type (Ok (a, q)) i = some a (get_u64 s q) (name_ok s p a.start a.len q i)

-- Descriptors

fine_steps : (limit : ℕ) (s : List ℕ)
    → Steps limit s (λ depth at tr q. Fine TextOk depth tr) (λ depth tag n p ks e. BranchOk tag → (kid_count ks ≡ n) × FineKids TextOk tag depth ks)
unfolding Fine kid_count
fine_steps limit s =
    record {
      on_leaf = λ depth at tag p next i. rw i at (head_ok s at);
      on_branch = λ depth at tag n next ks e i k.
          let h = rw i at (head_ok s at) in
          let g = k h.0 in
          (h.0, rw g.0 h.1, g.1);
      on_none = λ depth tag p b. (refl, tt);
      on_more = λ depth tag n p start len d q t e ks f i a k b.
          let l = rw i at (label_ok s p b) in
          let g = k b in
          (ap suc g.0, (l.0, l.1, a, g.1));
    }

-- whatever is read is fine
pub desc_fine : (limit depth : ℕ) (s : List ℕ) (at : ℕ) (tr : Tree (List ℕ)) (q : ℕ) → desc limit depth s at ≡ Ok (tr, q)
    → Fine TextOk depth tr
desc_fine limit depth s at tr q e =
    got_as (λ t r. Fine TextOk depth t) (desc limit depth s at) tr q (desc_as limit s _ _ (fine_steps limit s) depth at) e
