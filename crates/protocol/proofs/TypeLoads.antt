-- A type's row, as its readers tell it.
use mathlib.Core.Bool.{Bool, true, false}
use mathlib.Core.Path.{◌≡◌, refl, sym, ◌∙◌, ap}
use mathlib.Core.List.{List, [], ◌∷◌, ◌++◌}
use Prim.Native.Nat.{ℕ, ◌+◌, ◌≤◌}
use native.Mathlib.Omega.{arith}
use borrow.Author.Tests.{le-leb}
use lib.ListN.{length}
use Rattle.std.specs.Prelude.{Ok, Err, Result}
use Rattle.varint.specs.Formats.{Format, name}
use Rattle.varint.specs.Got.{Got, got, then}
use Rattle.varint.specs.Inner.Again.{Again}
use Rattle.varint.specs.Leb128.{get_u64}
use Rattle.varint.specs.declared.error.Refusal.{Refusal}
use Rattle.varint.proofs.Agains.{first}
use Rattle.varint.proofs.FormatParts as Parts
use Rattle.varint.proofs.Gots.{got_of}
use Rattle.desc.specs.Trees.{Tree}
use Rattle.desc.specs.WellFormed.{descriptor}
use Rattle.protocol.specs.Fields.{bit, wide_flag, Optional, present, optional_on}
use Rattle.protocol.specs.Inner.Loading.{Mem, put, told, load, past, sides, lay_sides}
use Rattle.protocol.specs.Pieces.{Piece, cells, words, tree, ◌⊕◌}
use Rattle.protocol.specs.Types.{Predicate, to_predicate, predicate, has_value, lay_value, lay_predicate}
use Rattle.protocol.proofs.Loads.{greater}
use Rattle.protocol.proofs.PieceLaws.{tree_seven, put_join}
use Rattle.protocol.proofs.RowLoads.{row_after}

-- the flag tells whether there is a value
has_value_lem : {A : Type 0} (f : Format A) (b : Bool) (s : List ℕ) (at : ℕ) (o : Optional A) (e : ℕ) → optional_on f b s at ≡ Ok (o, e) → has_value o ≡ b
has_value_lem f true s at o e h = let w = Parts.went (f.read s at) (λ a q. Ok (present a, q)) o e h in ap has_value (sym (got_of w.rest).0)
has_value_lem f false s at o e h = ap has_value (sym (got_of h).0)

module _ (limit : ℕ) (s : List ℕ) (at : ℕ) {v has : Bool} {p q e : ℕ} {k : Tree (List ℕ)} (flag : wide_flag.read s at ≡ Ok (v, p))
    (key : (descriptor limit).read s p ≡ Ok (k, q)) (there : wide_flag.read s q ≡ Ok (has, e)) where
  -- what follows the second flag decides
  sides_tail : (sides limit).read s at ≡ then (optional_on (descriptor limit) has s e) (λ o z. got (v, (k, o)) z)
  sides_tail = rw (flag, key, there) (go (optional_on (descriptor limit) has s e))
    where
      go : (g : Got (Optional (Tree (List ℕ)))) → then (then g (λ o z. got {A = Tree (List ℕ) × Optional (Tree (List ℕ))} (k, o) z)) (λ c z. got {A = Bool × (Tree (List ℕ) × Optional (Tree (List ℕ)))} (v, c) z) ≡ then g (λ o z. got (v, (k, o)) z)
      go (Ok (o, z)) = refl
      go (Err r) = refl

  -- where what follows a name was accepted, so was the value
  pub sides_value : {check : Bool} → Again check ((sides limit).read s at) → Again check (optional_on (descriptor limit) has s e)
  sides_value h z = first (optional_on (descriptor limit) has s e) (λ o q. got (v, (k, o)) q) (rw sides_tail at (h z))

module _ (s : List ℕ) (at : ℕ) (m : Mem) {v has : Bool} {p q e : ℕ} {k : Tree (List ℕ)} (flag : wide_flag.read s at ≡ Ok (v, p))
    (key : (descriptor m.limit).read s p ≡ Ok (k, q)) (there : wide_flag.read s q ≡ Ok (has, e)) where
  pub sides_read : {m₁ : Mem} (m₂ m₃ : Mem) {f g : ℕ} (x : Result ℕ Refusal) → m₁ ≡ put (tree k) m → m₂ ≡ put (cells (λ t n. f ∷ g ∷ m.n ∷ [])) m₁ → f ≡ bit v → g ≡ bit has
      → told x m₃ ≡ load past lay_value (optional_on (descriptor m₂.limit) has s e) m₂ → told x m₃ ≡ load past lay_sides ((sides m.limit).read s at) m
  sides_read m₂ m₃ {f} {g} x h h₂ i j value =
      value
      ∙ ap (λ (l : ℕ). load past lay_value (optional_on (descriptor l) has s e) m₂) (rw (h₂, h) refl)
      ∙ greater lay_value lay_sides (λ o. (v, (k, o))) (optional_on (descriptor m.limit) has s e) m m₂ put_sides
      ∙ ap (λ (g : Got (Bool × (Tree (List ℕ) × Optional (Tree (List ℕ))))). load past lay_sides g m) (sym (sides_tail m.limit s at flag key there))
    where
      -- the numbers, the key and the value, one after the other
      put_sides : (o : Optional (Tree (List ℕ))) (z : ℕ) → optional_on (descriptor m.limit) has s e ≡ Ok (o, z) → put (lay_value o) m₂ ≡ put (lay_sides (v, (k, o))) m
      put_sides o z y =
          let row : ℕ → ℕ → List ℕ = λ u n. bit v ∷ bit (has_value o) ∷ n ∷ [] in
          let a : has_value o ≡ has = has_value_lem (descriptor m.limit) has s e o z y in
          ap (put (lay_value o)) (row_after row (tree k) (λ u n. refl) m (f ∷ g ∷ m.n ∷ []) h h₂ (rw (i, j, a)))
          ∙ sym (put_join (tree k) (lay_value o) _ (tree_seven k))
          ∙ sym (put_join (cells row) (tree k ⊕ lay_value o) m (λ u n. refl))

-- the numbers of a row at once, or in two steps with a text between
two_rows : (id v h : ℕ) (x : List ℕ) (k w : Piece)
    → cells (λ t n. id ∷ t ∷ length x ∷ v ∷ h ∷ n ∷ []) ⊕ words x ⊕ k ⊕ w
    ≡ cells (λ t n. id ∷ t ∷ length x ∷ []) ⊕ words x ⊕ cells (λ t n. v ∷ h ∷ n ∷ []) ⊕ k ⊕ w
two_rows id v h x k w =
    let a : (t : ℕ) → t + 0 + length x ≡ t + 0 + length x + 0 = λ t. omega arith in
    let b : (n : ℕ) → n + 0 + 0 ≡ n + 0 + 0 + 0 = λ n. omega arith in
    let c : (n : ℕ) → n ≡ n + 0 + 0 = λ n. omega arith in
    let z : 0 + (0 + (k.size + w.size)) ≡ 0 + (0 + (0 + (k.size + w.size))) = omega arith in
    λ i. record {
      text = x ++ (k.text ++ w.text);
      size = z i;
      rows = λ t n. id ∷ t ∷ length x ∷ v ∷ h ∷ c n i ∷ k.rows (a t i) (b n i) ++ w.rows (a t i + length k.text) (b n i + k.size);
      nodes = λ t n. k.nodes (a t i) (b n i) ++ w.nodes (a t i + length k.text) (b n i + k.size);
    }

module _ (s : List ℕ) (at : ℕ) (m : Mem) {id p q : ℕ} {x : List ℕ} (number : get_u64 s at ≡ Ok (id, p)) (small : id ≤ 4294967295) (label : name.read s p ≡ Ok (x, q)) where
  -- what follows the name decides
  predicate_tail : (predicate m.limit).read s at ≡ then ((sides m.limit).read s q) (λ c e. got (to_predicate (id, (x, c))) e)
  predicate_tail = rw (number, le-leb id 4294967295 small, label) (go ((sides m.limit).read s q))
    where
      go : (g : Got (Bool × (Tree (List ℕ) × Optional (Tree (List ℕ)))))
          → then (then (then g (λ c e. got (x, c) e)) (λ c e. got (id, c) e)) (λ c e. got (to_predicate c) e) ≡ then g (λ c e. got (to_predicate (id, (x, c))) e)
      go (Ok (c, e)) = refl
      go (Err e) = refl

  pub type_read : {m₁ : Mem} (m₂ m₃ : Mem) {a b : ℕ} (r : Result ℕ Refusal) → m₁ ≡ put (words x) m → m₂ ≡ put (cells (λ t n. id ∷ a ∷ b ∷ [])) m₁ → a ≡ m.t → b ≡ length x
      → told r m₃ ≡ load past lay_sides ((sides m₂.limit).read s q) m₂ → told r m₃ ≡ load past lay_predicate ((predicate m.limit).read s at) m
  type_read m₂ m₃ {a} {b} r h h₂ i j rest =
      rest
      ∙ ap (λ (l : ℕ). load past lay_sides ((sides l).read s q) m₂) (rw (h₂, h) refl)
      ∙ greater lay_sides lay_predicate (λ c. to_predicate (id, (x, c))) ((sides m.limit).read s q) m m₂ (λ c e _. put_type c)
      ∙ ap (λ (g : Got Predicate). load past lay_predicate g m) (sym predicate_tail)
    where
      row : ℕ → ℕ → List ℕ
      row u n = id ∷ u ∷ length x ∷ []

      -- its row is its id and name, and what follows them
      put_type : (c : Bool × (Tree (List ℕ) × Optional (Tree (List ℕ)))) → put (lay_sides c) m₂ ≡ put (lay_predicate (to_predicate (id, (x, c)))) m
      put_type c =
          ap (put (lay_sides c)) (row_after row (words x) (λ u n. refl) m (id ∷ a ∷ b ∷ []) h h₂ (rw (i, j)))
          ∙ sym (put_join (words x) (lay_sides c) _ (λ u n. refl))
          ∙ sym (put_join (cells row) (words x ⊕ lay_sides c) m (λ u n. refl))
          ∙ ap (λ (y : Piece). put y m) (sym (two_rows id (bit c.0) (bit (has_value c.1.1)) x (tree c.1.0) (lay_value c.1.1)))
