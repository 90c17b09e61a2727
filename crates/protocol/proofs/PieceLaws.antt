-- Pieces in memory, one after the other.
use mathlib.Core.Path.{◌≡◌, refl, sym, ◌∙◌, ap}
use mathlib.Core.List.{List, [], ◌∷◌, ◌++◌}
use Prim.Native.Nat.{ℕ, ◌+◌, ◌*◌}
use native.Mathlib.Nat.{add_assoc, add-zero, suc-mul}
use native.Mathlib.Omega.{arith}
use lib.ListN.{length, length-append}
use Rattle.desc.specs.Layout.{width, placed}
use Rattle.desc.specs.Trees.{Tree}
use Rattle.desc.proofs.LayoutLaws.{size_placed, length_nodes}
use Rattle.protocol.specs.Inner.Loading.{stored, Mem, put}
use Rattle.protocol.specs.Pieces.{Piece, none, tree, ◌⊕◌, many}
use Rattle.protocol.proofs.RowStores.{stored_append, stored_none}

-- a piece's nodes have seven numbers each
abbrev pub Seven : Piece → Type 0
Seven p = (t n : ℕ) → length (p.nodes t n) ≡ p.size * width

pub tree_seven : (tr : Tree (List ℕ)) → Seven (tree tr)
tree_seven tr t n = length_nodes (placed tr t) n (0, 0) 0 ∙ ap (λ (k : ℕ). k * width) (size_placed tr t)

pub join_seven : (p q : Piece) → Seven p → Seven q → Seven (p ⊕ q)
join_seven p q h k t n =
    length-append (p.nodes t n) _ ∙ rw (h t n, k (t + length p.text) (n + p.size)) (omega arith)

pub many_seven : {A : Type 0} (piece : A → Piece) → ((a : A) → Seven (piece a)) → (l : List A) → Seven (many piece l)
unfolding many
many_seven piece h [] t n = refl
many_seven piece h (a ∷ l) t n = join_seven (piece a) (many piece l) (h a) (many_seven piece h l) t n

-- n rows have n times as many numbers
pub rows_length : {A : Type 0} (piece : A → Piece) (wide : ℕ) → ((a : A) (t n : ℕ) → length ((piece a).rows t n) ≡ wide)
    → (l : List A) (t n : ℕ) → length ((many piece l).rows t n) ≡ length l * wide
unfolding many
rows_length piece wide cells [] t n = omega arith
rows_length piece wide cells (a ∷ l) t n =
    let i = rows_length piece wide cells l (t + length (piece a).text) (n + (piece a).size) in
    rw (length-append, cells a t n, i, suc-mul) (omega arith)

pub put_none : (m : Mem) → put none m ≡ m
put_none m =
    λ i. record {
      check = m.check;
      limit = m.limit;
      text = stored_none m.check m.text m.t i;
      t = add-zero m.t i;
      rows = stored_none m.check m.rows m.r i;
      r = add-zero m.r i;
      nodes = stored_none m.check m.nodes (m.n * width) i;
      n = add-zero m.n i;
    }

joined_length : (a : ℕ) (x y : List ℕ) → a + length (x ++ y) ≡ a + length x + length y
joined_length a x y = rw (length-append x y) (omega arith)

-- two pieces are one after the other
pub put_join : (p q : Piece) (m : Mem) → Seven p → put (p ⊕ q) m ≡ put q (put p m)
put_join p q m h =
    let t = m.t in
    let n = m.n in
    let u = t + length p.text in
    let o = n + p.size in
    let e : n * width + length (p.nodes t n) ≡ (n + p.size) * width = rw (h t n) (omega arith) in
    λ i. record {
      check = m.check;
      limit = m.limit;
      text = stored_append m.check p.text q.text m.text t i;
      t = joined_length t p.text q.text i;
      rows = stored_append m.check (p.rows t n) (q.rows u o) m.rows m.r i;
      r = joined_length m.r (p.rows t n) (q.rows u o) i;
      nodes = (stored_append m.check (p.nodes t n) (q.nodes u o) m.nodes (n * width) ∙ ap (λ (k : ℕ). stored m.check (stored m.check m.nodes (n * width) (p.nodes t n)) k (q.nodes u o)) e) i;
      n = sym (add_assoc n p.size q.size) i;
    }
