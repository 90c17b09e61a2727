-- How far the recursive writer moves on: by the size that the table says, whatever the buffer and the text are.
use mathlib.Core.Bool.{Bool, true, false}
use mathlib.Core.Path.{◌≡◌, refl, ap, ◌∙◌}
use mathlib.Core.List.{List}
use Prim.Native.Nat.{ℕ, ◌+◌, ◌≤◌}
use native.Mathlib.Omega.{arith}
use lib.Dec.{eqb}
use lib.ListN.{length}
use Rattle.varint.specs.Choice.{pick}
use Rattle.varint.specs.Got.{Got}
use Rattle.varint.specs.Leb128.{put_u64}
use Rattle.varint.specs.Outs.{declared}
use Rattle.desc.specs.Emitting.{Pen, put_bytes, put_number, put_name, span_size, kids_span, sized, emitted_to}
use Rattle.desc.specs.Inner.Emission.{emission, told, put_where, put_label, put_tree, put_kids}
use Rattle.desc.specs.Layout.{NameSpan}
use Rattle.desc.specs.Trees.{Tree, leaf, branch, Kids, none, more, kid_count}
use Rattle.desc.proofs.EmitPrint.{last}
use Rattle.std.specs.Prelude.{Ok, Err, Some, None}
use Rattle.varint.proofs.Basics.{never}

-- the place was p, and moved on by n
unfoldable pub Moved : ℕ → ℕ → Pen → Type 0
Moved p n s = s.place ≡ declared (p + n)

pub on : (p n k : ℕ) (s s₁ : Pen) → Moved p n s → s₁.place ≡ declared (s.place + k) → Moved p (n + k) s₁
unfolding Moved
on p n k s s₁ h e = e ∙ rw h (omega arith)

pub add : (p n k : ℕ) (s : Pen) → Moved p n s → n ≡ k → Moved p k s
add p n k s h e = rw (← e) h

module _ (p : ℕ) where
  pub number_moved : (v n : ℕ) (s : Pen) → Moved p n s → Moved p (n + length (put_u64 v)) (put_number v s)
  unfolding put_number put_bytes
  number_moved v n s h = on p n (length (put_u64 v)) s (put_number v s) h refl

  pub name_moved : (tx : List ℕ) (name : NameSpan) (n : ℕ) (s : Pen) → Moved p n s → Moved p (n + name.1) (put_name tx name s)
  unfolding put_name
  name_moved tx name n s h = on p n name.1 s (put_name tx name s) h refl

  where_moved : (t : Bool) (v n : ℕ) (s : Pen) → Moved p n s → Moved p (n + pick t (length (put_u64 v)) 0) (put_where t v s)
  unfolding put_where
  where_moved true v n s h = number_moved v n s h
  where_moved false v n s h = add p n (n + 0) s h (omega arith)

  mutual
    unfolding put_tree put_label span_size

    pub tree_moved : (tx : List ℕ) (t : Tree NameSpan) (n : ℕ) (s : Pen) → Moved p n s → Moved p (n + span_size t) (put_tree tx t s)
    tree_moved tx (leaf tag q) n s h =
        let T = length (put_u64 tag) in
        let Q = pick (eqb tag 2) (length (put_u64 q)) 0 in
        add p (n + T + Q) (n + (T + Q)) (put_tree tx (leaf tag q) s) (where_moved (eqb tag 2) q (n + T) (put_number tag s) (number_moved tag n s h)) (omega arith)
    tree_moved tx (branch tag ks) n s h =
        let T = length (put_u64 tag) in
        let C = length (put_u64 (kid_count ks)) in
        let s₁ = put_number tag s in
        add p (n + T + C + kids_span tag ks) (n + (T + (C + kids_span tag ks))) (put_tree tx (branch tag ks) s)
        (kids_moved tx tag ks (n + T + C) (put_number (kid_count ks) s₁) (number_moved (kid_count ks) (n + T) s₁ (number_moved tag n s h)))
        (omega arith)

    kids_moved : (tx : List ℕ) (tag : ℕ) (ks : Kids NameSpan) (n : ℕ) (s : Pen) → Moved p n s → Moved p (n + kids_span tag ks) (put_kids tx tag ks s)
    kids_moved tx tag none n s h = add p n (n + 0) s h (omega arith)
    kids_moved tx tag (more name d t ks) n s h =
        let L = length (put_u64 name.1) in
        let D = pick (eqb tag 4) (length (put_u64 d)) 0 in
        let s₁ = put_number name.1 s in
        let s₂ = put_name tx name s₁ in
        let s₃ = put_where (eqb tag 4) d s₂ in
        let h₂ = name_moved tx name (n + L) s₁ (number_moved name.1 n s h) in
        let h₃ = where_moved (eqb tag 4) d (n + L + name.1) s₂ h₂ in
        let h₄ = tree_moved tx t (n + L + name.1 + D) s₃ h₃ in
        add p (n + L + name.1 + D + span_size t + kids_span tag ks) (n + (L + (name.1 + (D + (span_size t + kids_span tag ks))))) (put_kids tx tag ks (put_tree tx t s₃))
        (kids_moved tx tag ks (n + L + name.1 + D + span_size t) (put_tree tx t s₃) h₄)
        (omega arith)

-- from a place of a buffer
pub from_place : (tx : List ℕ) (t : Tree NameSpan) (out : List ℕ) (at : ℕ) → at ≤ last
    → (put_tree tx t (record { out = out; place = at })).place ≡ declared (at + span_size t)
unfolding Moved
from_place tx t out at h =
    let e : at + (0 + span_size t) ≡ at + span_size t = omega arith in
    tree_moved at tx t 0 (record { out = out; place = at }) (omega arith) ∙ ap declared e

-- what a writer that stores nowhere tells
pub size_told : (tx : List ℕ) (D : Got (Tree NameSpan)) (out : List ℕ) (m : ℕ) (s : Pen) → told (Some m) s ≡ emission tx D (record { out = out; place = 0 })
    → Some (emitted_to m s.place) ≡ sized D
unfolding told emission sized
size_told tx (Ok (t, e)) out m s h =
    let p : m ≡ e = cc in
    let q : s ≡ put_tree tx t (record { out = out; place = 0 }) = cc in
    let z : 0 + span_size t ≡ span_size t = omega arith in
    let l : s.place ≡ declared (span_size t) = ap (λ (s : Pen). s.place) q ∙ from_place tx t out 0 (omega arith) ∙ ap declared z in
    rw (p, l)
size_told tx (Err e) out m s h = never cc

pub size_wrong : (tx : List ℕ) (D : Got (Tree NameSpan)) (s s₁ : Pen) → told None s₁ ≡ emission tx D s → None ≡ sized D
unfolding told emission sized
size_wrong tx (Ok (t, e)) s s₁ h = never cc
size_wrong tx (Err e) s s₁ h = refl
