-- What a walk over a descriptor leaves of the two buffers that it is lent: the statement of the recursive reader.
use Rattle.std.specs.Prelude.{Bool, ◌≡◌, List, ℕ, ◌+◌, ◌*◌, ◌≤◌, length, Ok, Err, Result}
use Rattle.std.proofs.lemmas.List.Edits.{sets}
use Rattle.varint.specs.Choice.{pick}
use Rattle.varint.specs.Got.{Got}
use Rattle.varint.specs.Stores.{part}
use Rattle.varint.specs.Texts.{span}
use Rattle.varint.specs.declared.error.Refusal.{Refusal}
use Rattle.desc.specs.declared.Memory.{Memory}
use Rattle.desc.specs.declared.Walked.{Walked}
use Rattle.desc.specs.Layout.{NameSpan, width, texts, kid_texts, placed, placed_kids, nodes_of, kid_nodes}
use Rattle.desc.specs.Reading.{named_label}
use Rattle.desc.specs.declared.head.Label.{Label}
use Rattle.desc.specs.Trees.{Tree, Kids, size, kid_size}

-- the places past what was read: in the bytes, the text and the nodes
abbrev pub walked_to : ℕ → ℕ → ℕ → Walked
walked_to next t m = record { next = next; text = t; nodes = m }

-- text and nodes after a descriptor was stored there
pub record Stored : Type 0 where
  pub text : List ℕ
  pub nodes : List ℕ

-- its texts from place t on, its nodes from node n on, the root with this name and discriminant
unfoldable pub stored_as : Tree (List ℕ) → List ℕ → ℕ → List ℕ → ℕ → NameSpan → ℕ → Stored
stored_as tr tx t nd n name d = record { text = sets tx t (texts tr); nodes = sets nd (n * width) (nodes_of (placed tr t) n name d) }

-- a refusal; or the places past what was read in the bytes, the text and the nodes, and what was stored
pub data Outcome : Type 0 where
  refused : Refusal → Outcome
  done : (next t m : ℕ) → Stored → Outcome

-- what reading a descriptor as node n leaves of the buffers tx and nd
unfoldable pub outcome : Got (Tree (List ℕ)) → (tx : List ℕ) (t : ℕ) (nd : List ℕ) (n : ℕ) (name : NameSpan) (d : ℕ) → Outcome
outcome (Err e) tx t nd n name d = refused e
outcome (Ok (tr, next)) tx t nd n name d = done next (t + length (texts tr)) (n + size tr) (stored_as tr tx t nd n name d)

-- so of children, the first of which is node m
unfoldable pub outcome_kids : Got (Kids (List ℕ)) → (tx : List ℕ) (t : ℕ) (nd : List ℕ) (m : ℕ) → Outcome
outcome_kids (Err e) tx t nd m = refused e
outcome_kids (Ok (ks, next)) tx t nd m =
    done next (t + length (kid_texts ks)) (m + kid_size ks)
    (record { text = sets tx t (kid_texts ks); nodes = sets nd (m * width) (kid_nodes (placed_kids ks t) m) })

-- What a function answered and left agrees with an outcome, and the places are in bounds: each byte of text and each node cost a byte. Of
-- the buffers after a refusal nothing is said.
unfoldable pub Agrees : Outcome → ℕ → Result Walked Refusal → List ℕ → List ℕ → Type 0
Agrees (refused e) end r tx nd = r ≡ Err e
Agrees (done next t m st) end r tx nd = (r ≡ Ok (walked_to next t m)) × (tx ≡ st.text) × (nd ≡ st.nodes) × (t + m ≤ next) × (next ≤ end)

-- memory that is lent stays the same
abbrev pub Keeps : Memory → Memory → Type 0
Keeps before after = (after.text.ghost_name ≡ before.text.ghost_name) × (after.nodes.ghost_name ≡ before.nodes.ghost_name)

-- A child's label was read: its name stands in text, and the label says where.
abbrev pub Labels : List ℕ → Got Label → Memory → Memory → Got Label → Type 0
Labels s (Ok (l, next)) before after x =
    (x ≡ Ok (named_label (span before.t l.name.len) l.discriminant, next))
    × (after.text.now ≡ sets before.text.now before.t (part s l.name.start l.name.len)) × (after.t ≡ before.t + l.name.len)
    × (after.nodes.now ≡ before.nodes.now) × (after.n ≡ before.n)
Labels s (Err e) before after x = x ≡ Err e

-- the places past a descriptor, from the one in the bytes and the memory after it
unfoldable pub reached : Result ℕ Refusal → Memory → Result Walked Refusal
reached (Ok next) m = Ok (walked_to next m.t m.n)
reached (Err e) m = Err e

-- what a reading within other bytes answers, and leaves of text and nodes
pub record Read : Type 0 where
  pub answer : Result Walked Refusal
  pub text : List ℕ
  pub nodes : List ℕ

-- It is of a root. The reading that checks stores nothing, and the places past the descriptor are told in both.
unfoldable pub reading : Bool → Got (Tree (List ℕ)) → (tx : List ℕ) (t : ℕ) (nd : List ℕ) (n : ℕ) → Read
reading check (Err e) tx t nd n = record { answer = Err e; text = tx; nodes = nd }
reading check (Ok (tr, next)) tx t nd n =
    record {
      answer = Ok (walked_to next (t + length (texts tr)) (n + size tr));
      text = pick check tx (stored_as tr tx t nd n (0, 0) 0).text;
      nodes = pick check nd (stored_as tr tx t nd n (0, 0) 0).nodes;
    }
