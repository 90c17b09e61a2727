-- What a part of a message leaves in the lent memory: "text holds the message's texts joined in reading order, rows and nodes hold its rows".
use Rattle.std.specs.Prelude.{◌≡◌, refl, List, [], ◌∷◌, ◌++◌, ℕ, ◌+◌, length}
use Rattle.desc.specs.Layout.{texts, placed, nodes_of}
use Rattle.desc.specs.Trees.{Tree, size}

-- Its texts; how many nodes it has; and its rows and nodes where its texts start at place t and its nodes at node n.
pub record Piece : Type 0 where
  pub text : List ℕ
  pub size : ℕ
  pub rows : ℕ → ℕ → List ℕ
  pub nodes : ℕ → ℕ → List ℕ

abbrev pub none : Piece
none = record { text = []; size = 0; rows = λ t n. []; nodes = λ t n. [] }

-- a text alone
abbrev pub words : List ℕ → Piece
words x = record { text = x; size = 0; rows = λ t n. []; nodes = λ t n. [] }

-- a row of numbers alone, which may name the place of the texts and the node that follow it
abbrev pub cells : (ℕ → ℕ → List ℕ) → Piece
cells row = record { text = []; size = 0; rows = row; nodes = λ t n. [] }

-- a descriptor: "a root's name is 0, 0"
abbrev pub tree : Tree (List ℕ) → Piece
tree tr = record { text = texts tr; size = size tr; rows = λ t n. []; nodes = λ t n. nodes_of (placed tr t) n (0, 0) 0 }

-- one after the other
infixr 60 ◌⊕◌
abbrev pub ◌⊕◌ : Piece → Piece → Piece
◌⊕◌ p q =
    record {
      text = p.text ++ q.text;
      size = p.size + q.size;
      rows = λ t n. p.rows t n ++ q.rows (t + length p.text) (n + p.size);
      nodes = λ t n. p.nodes t n ++ q.nodes (t + length p.text) (n + p.size);
    }

unfoldable pub many : {A : Type 0} → (A → Piece) → List A → Piece
many piece [] = none
many piece (a ∷ l) = piece a ⊕ many piece l

-- two names of two bytes, each with a row that says where it is
example_many : (many (λ x. cells (λ t n. t ∷ length x ∷ []) ⊕ words x) ((0x61 ∷ 0x62 ∷ []) ∷ (0x63 ∷ 0x64 ∷ []) ∷ [])).rows 5 0 ≡ 5 ∷ 2 ∷ 7 ∷ 2 ∷ []
unfolding many
example_many = refl
