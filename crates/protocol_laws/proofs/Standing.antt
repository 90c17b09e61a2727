-- What stands where in lent memory: a list in a list, and a part of a message in text, rows and nodes.
use mathlib.Core.Path.{◌≡◌, refl, sym, ◌∙◌, ap}
use mathlib.Core.List.{List, [], ◌++◌, append_assoc}
use Prim.Native.Nat.{ℕ, ◌+◌, ◌*◌, ◌≤◌}
use native.Mathlib.Nat.{add-zero}
use native.Mathlib.Omega.{arith}
use lib.ListN.{length, get_or, take, drop, length-append}
use lib.Seq.{get_or-append-add, sets, sets-eq, length-take-le}
use Rattle.desc.specs.Layout.{width}
use Rattle.protocol.specs.Pieces.{Piece, ◌⊕◌}

-- x stands in l from place `at` on, whatever is before and after
pub record At (x l : List ℕ) (at : ℕ) : Type 0 where
  pub before : List ℕ
  pub after : List ℕ
  pub is : l ≡ before ++ (x ++ after)
  pub place : length before ≡ at

pub at_front : (x y : List ℕ) → At x (x ++ y) 0
at_front x y = record { before = []; after = y; is = refl; place = refl }

-- two lists one after the other
module _ (x y : List ℕ) {l : List ℕ} {at : ℕ} (h : At (x ++ y) l at) where
  pub at_first : At x l at
  at_first =
      record { before = h.before; after = y ++ h.after; is = h.is ∙ ap (λ (z : List ℕ). h.before ++ z) (append_assoc x y h.after); place = h.place }

  pub at_rest : At y l (at + length x)
  at_rest =
      record {
        before = h.before ++ x;
        after = h.after;
        is = h.is ∙ simp append_assoc;
        place = length-append h.before x ∙ ap (λ (k : ℕ). k + length x) h.place;
      }

module _ {x l : List ℕ} {at : ℕ} (h : At x l at) where
  pub at_room : at + length x ≤ length l
  at_room =
      let e = ap length h.is ∙ length-append h.before (x ++ h.after) in
      let f = length-append x h.after in
      let p = h.place in
      omega arith

  -- number k from there on
  pub at_cell : (k : ℕ) → get_or l (at + k) 0 ≡ get_or (x ++ h.after) k 0
  at_cell k =
      ap (λ (z : List ℕ). get_or z (at + k) 0) h.is ∙ ap (λ (p : ℕ). get_or (h.before ++ (x ++ h.after)) (p + k) 0) (sym h.place)
      ∙ get_or-append-add h.before (x ++ h.after) k 0

  -- and the first of them
  pub at_head : get_or l at 0 ≡ get_or (x ++ h.after) 0 0
  at_head = ap (λ (k : ℕ). get_or l k 0) (sym (add-zero at)) ∙ at_cell 0

-- what can be stored there with no change stands there
pub at_stored : (x l : List ℕ) (at : ℕ) → at + length x ≤ length l → sets l at x ≡ l → At x l at
at_stored x l at room e =
    record {
      before = take at l;
      after = drop (at + length x) l;
      is = sym e ∙ sets-eq x l at room ∙ append_assoc (take at l) x (drop (at + length x) l);
      place = length-take-le at l (omega arith);
    }

-- A part of a message stands in text from place t on, in rows from number r on, and in nodes from node n on.
pub record In (p : Piece) (tx rs nd : List ℕ) (t r n : ℕ) : Type 0 where
  pub text : At p.text tx t
  pub rows : At (p.rows t n) rs r
  pub nodes : At (p.nodes t n) nd (n * width)

pub in_front : (p : Piece) (X Y Z : List ℕ) → In p (p.text ++ X) (p.rows 0 0 ++ Y) (p.nodes 0 0 ++ Z) 0 0 0
in_front p X Y Z = record { text = at_front p.text X; rows = at_front (p.rows 0 0) Y; nodes = at_front (p.nodes 0 0) Z }

-- two parts one after the other
module _ (p q : Piece) {tx rs nd : List ℕ} {t r n : ℕ} (h : In (p ⊕ q) tx rs nd t r n) where
  pub in_first : In p tx rs nd t r n
  in_first =
      record {
        text = at_first p.text q.text h.text;
        rows = at_first (p.rows t n) (q.rows (t + length p.text) (n + p.size)) h.rows;
        nodes = at_first (p.nodes t n) (q.nodes (t + length p.text) (n + p.size)) h.nodes;
      }

  -- the second, where the first has so many numbers of rows, and seven a node
  pub in_rest : (w : ℕ) → length (p.rows t n) ≡ w → length (p.nodes t n) ≡ p.size * width
      → In q tx rs nd (t + length p.text) (r + w) (n + p.size)
  in_rest w e f =
      let t₁ : ℕ = t + length p.text in
      let n₁ : ℕ = n + p.size in
      let g : n * width + length (p.nodes t n) ≡ (n + p.size) * width = omega arith in
      record {
        text = at_rest p.text q.text h.text;
        rows = rw e at (at_rest (p.rows t n) (q.rows t₁ n₁) h.rows);
        nodes = rw g at (at_rest (p.nodes t n) (q.nodes t₁ n₁) h.nodes);
      }
