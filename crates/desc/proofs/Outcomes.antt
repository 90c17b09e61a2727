-- What a reading leaves of the buffers: of one child more in front, of children and their parent's node, and what a contract tells of it.
use mathlib.Core.Path.{◌≡◌, refl, sym, ◌∙◌, ap}
use mathlib.Core.List.{List, ◌++◌}
use Prim.Native.Nat.{ℕ, suc, ◌+◌, ◌*◌, ◌≤◌}
use native.Mathlib.Nat.{add-zero}
use native.Mathlib.Omega.{arith}
use lib.ListN.{length, length-append}
use lib.Seq.{sets}
use Rattle.varint.specs.Got.{Got, then, got}
use Rattle.varint.specs.declared.error.Refusal.{Refusal}
use Rattle.varint.proofs.StoreLaws.{sets_append, sets_back}
use Rattle.desc.specs.declared.Walked.{Walked}
use Rattle.desc.specs.Layout.{NameSpan, width, node_of, texts, kid_texts, placed, placed_kids, nodes_of, kid_nodes}
use Rattle.desc.specs.Trees.{Tree, branch, Kids, none, more, kid_count, size, kid_size}
use Rattle.desc.specs.Inner.Walking.{stored_as, walked_to, Outcome, refused, done, outcome, outcome_kids, Agrees}
use Rattle.desc.proofs.LayoutLaws.{size_placed, kids_placed, count_placed, length_placed}
use Rattle.desc.proofs.Readings.{walked_of}
use Rattle.std.specs.Prelude.{Ok, Err, Result}
use Rattle.varint.proofs.Basics.{never}

-- one child more in front
pub more_law : (R : Got (Kids (List ℕ))) (name : List ℕ) (d : ℕ) (tr : Tree (List ℕ)) (tx : List ℕ) (t : ℕ) (nd : List ℕ) (m : ℕ)
    → outcome_kids (then R (λ ks f. Ok (more name d tr ks, f))) tx t nd m
    ≡ outcome_kids R (sets (sets tx t name) (t + length name) (texts tr))
    (t + length name + length (texts tr))
    (sets nd (m * width) (nodes_of (placed tr (t + length name)) m (t, length name) d)) (m + size tr)
unfolding outcome_kids texts size placed nodes_of
more_law (Err e) name d tr tx t nd m = refl
more_law (Ok (ks, q)) name d tr tx t nd m =
    let T = texts tr in
    let K = kid_texts ks in
    let o = t + length name in
    let R = nodes_of (placed tr o) m (t, length name) d in
    let S = kid_nodes (placed_kids ks (o + length T)) (m + size tr) in
    let l : length (name ++ (T ++ K)) ≡ length name + (length T + length K) = simp length-append in
    let e₁ : t + length (name ++ (T ++ K)) ≡ o + length T + length K = omega arith in
    let e₂ : m + (size tr + kid_size ks) ≡ m + size tr + kid_size ks = omega arith in
    let e₄ : sets tx t (name ++ (T ++ K)) ≡ sets (sets (sets tx t name) o T) (o + length T) K =
    sets_append name (T ++ K) tx t ∙ sets_append T K (sets tx t name) o in
    let l₅ : m * width + length R ≡ (m + size tr) * width = omega (arith, length_placed tr o m (t, length name) d) in
    let e₅ : sets nd (m * width) (R ++ S) ≡ sets (sets nd (m * width) R) ((m + size tr) * width) S = sets_append R S nd (m * width) ∙ rw l₅ refl in
    rw (size_placed tr o, e₁, e₂, e₄, e₅) refl

-- none is left
pub none_law : (q : ℕ) (tx : List ℕ) (t : ℕ) (nd : List ℕ) (m : ℕ) → outcome_kids (Ok (none, q)) tx t nd m ≡ done q t m (record { text = tx; nodes = nd })
unfolding outcome_kids texts size placed nodes_of
none_law q tx t nd m = simp add-zero

-- the parent's own node is stored last
unfoldable pub close_row : (tag count n : ℕ) (name : NameSpan) (d : ℕ) → Outcome → Outcome
close_row tag count n name d (refused e) = refused e
close_row tag count n name d (done q t m st) =
    done q t m (record { text = st.text; nodes = sets st.nodes (n * width) (node_of tag name.0 name.1 d 0 count m) })

pub closed_law : (tag : ℕ) (ks : Kids (List ℕ)) (q : ℕ) (tx : List ℕ) (t : ℕ) (nd : List ℕ) (n : ℕ) (name : NameSpan) (d : ℕ)
    → outcome (Ok (branch tag ks, q)) tx t nd n name d ≡ close_row tag (kid_count ks) n name d (outcome_kids (Ok (ks, q)) tx t nd (n + 1))
unfolding outcome_kids outcome stored_as close_row texts size placed nodes_of
closed_law tag ks q tx t nd n name d =
    let e₁ : n + suc (kid_size ks) ≡ n + 1 + kid_size ks = omega arith in
    let e₃ : (n + 1) * width ≡ n * width + width = omega arith in
    let K = kid_nodes (placed_kids ks t) (n + 1) in
    let R = node_of tag name.0 name.1 d 0 (kid_count ks) (n + 1 + kid_size ks) in
    let b : sets (sets nd (n * width + width) K) (n * width) R ≡ sets nd (n * width) (R ++ K) = sets_back R K nd (n * width) in
    rw (kids_placed ks t, count_placed ks t, e₁, e₃, b) refl

-- what a contract tells of a refusal
pub agrees_refused : (D : Got (Tree (List ℕ))) (tx : List ℕ) (t : ℕ) (nd : List ℕ) (n : ℕ) (name : NameSpan)
    (d end : ℕ) (r : Result Walked Refusal) (tx' nd' : List ℕ) (e : Refusal)
    → Agrees (outcome D tx t nd n name d) end r tx' nd' → r ≡ Err e → D ≡ Err e
unfolding Agrees outcome
agrees_refused (Err x) tx t nd n name d end r tx' nd' e a h = cc
agrees_refused (Ok (tr, q)) tx t nd n name d end r tx' nd' e a h = let a₀ = a.0 in cc

-- and of a descriptor that was read
pub record Facts (D : Got (Tree (List ℕ))) (tx : List ℕ) (t : ℕ) (nd : List ℕ) (n : ℕ) (name : NameSpan)
    (d end : ℕ) (tx' nd' : List ℕ) (q t' m : ℕ) : Type 0 where
  pub tree : Tree (List ℕ)
  pub is : D ≡ Ok (tree, q)
  pub text_end : t' ≡ t + length (texts tree)
  pub node_end : m ≡ n + size tree
  pub text_is : tx' ≡ sets tx t (texts tree)
  pub nodes_are : nd' ≡ sets nd (n * width) (nodes_of (placed tree t) n name d)
  pub below : t' + m ≤ q
  pub within : q ≤ end

pub agrees_read : (D : Got (Tree (List ℕ))) (tx : List ℕ) (t : ℕ) (nd : List ℕ) (n : ℕ) (name : NameSpan)
    (d end : ℕ) (r : Result Walked Refusal) (tx' nd' : List ℕ) (q t' m : ℕ)
    → Agrees (outcome D tx t nd n name d) end r tx' nd' → r ≡ Ok (walked_to q t' m) → Facts D tx t nd n name d end tx' nd' q t' m
unfolding Agrees outcome stored_as
agrees_read (Err x) tx t nd n name d end r tx' nd' q t' m a h = never cc
agrees_read (Ok (tr, o)) tx t nd n name d end r tx' nd' q t' m a h =
    let a₀ = a.0 in
    let a₃ = a.3 in
    let a₄ = a.4 in
    let w = walked_of (sym a₀ ∙ h) in
    let w₀ = w.0 in
    let w₁ = w.1 in
    let w₂ = w.2 in
    record {
      tree = tr;
      is = ap (λ (z : ℕ). got tr z) w₀;
      text_end = sym w₁;
      node_end = sym w₂;
      text_is = a.1;
      nodes_are = a.2;
      below = omega arith;
      within = omega arith;
    }
