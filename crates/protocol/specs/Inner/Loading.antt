-- A message's two readings: the first checks it and tells how much memory it takes, the second stores it. Both are one function, so this says
-- what each of its parts answers and leaves in memory. Where a reading is refused, what it left is not told: the first is lent memory of its own.
use Rattle.std.specs.Prelude.{Bool, ◌⊎◌, ◌≡◌, List, [], ◌∷◌, ℕ, ◌+◌, ◌*◌, ◌-◌, ltb, ◌≤◌, ◌<◌, length, Ok, Err, Result}
use Rattle.std.proofs.lemmas.List.Edits.{sets}
use Rattle.varint.specs.Choice.{pick}
use Rattle.varint.specs.Got.{Got, then}
use Rattle.varint.specs.Formats.{Format, ◌⊗◌}
use Rattle.varint.specs.declared.error.Buffer.{Buffer}
use Rattle.varint.specs.declared.error.Refusal.{Refusal}
use Rattle.varint.specs.declared.error.Refusal.TheVariants.{TrailingBytes, TooSmall}
use Rattle.varint.specs.Lent.{Left, kept}
use Rattle.varint.specs.Stores.{clear_from}
use Rattle.desc.specs.Layout.{width}
use Rattle.desc.specs.Trees.{Tree}
use Rattle.desc.specs.WellFormed.{descriptor}
use Rattle.protocol.specs.Fields.{bit, wide_flag, Optional, optional}
use Rattle.protocol.specs.Laying.{Laid, span_of}
use Rattle.protocol.specs.Pieces.{Piece, cells, tree, ◌⊕◌}
use Rattle.protocol.specs.Reply.{Finished, finished, lay_reply}
use Rattle.protocol.specs.Said.{lay}
use Rattle.protocol.specs.Types.{has_value, lay_value}
use Rattle.protocol.specs.declared.message.Message.{Message}
use Rattle.protocol.specs.declared.memory.Memory.{Memory}
use Rattle.varint.specs.declared.text.Span.{Span}

-- what is told where a message ends at place `at`: bytes left over are refused
abbrev pub at_end : List ℕ → ℕ → Result (Unit {0}) Refusal
at_end s at = pick (ltb at (length s)) (Err (TrailingBytes (length s - at))) (Ok tt)

-- what is told of a buffer of so many elements, of which a message takes n
abbrev pub room : Buffer → ℕ → ℕ → Result (Unit {0}) Refusal
room buffer lent n = pick (ltb lent n) (Err (TooSmall buffer n)) (Ok tt)

-- x from place `at` of d on, in the reading that does not check
abbrev pub stored : Bool → List ℕ → ℕ → List ℕ → List ℕ
stored check d at x = pick check d (sets d at x)

-- the lent memory: whether the reading is the one that checks, how deep descriptors may nest, and where the next byte of text, number of rows and node go
pub record Mem : Type 0 where
  pub check : Bool
  pub limit : ℕ
  pub text : List ℕ
  pub t : ℕ
  pub rows : List ℕ
  pub r : ℕ
  pub nodes : List ℕ
  pub n : ℕ

-- as the code holds it
abbrev pub mem : Memory → Mem
mem m = record { check = m.check; limit = m.limit; text = m.text.now; t = m.t; rows = m.rows.now; r = m.r; nodes = m.nodes.now; n = m.n }

-- It is still the same three buffers; and was changed so. No change is one of the reading or of the depth.
abbrev pub SameBuffers : Memory → Memory → Type 0
SameBuffers before after =
    (after.text.ghost_name ≡ before.text.ghost_name) × (after.rows.ghost_name ≡ before.rows.ghost_name) × (after.nodes.ghost_name ≡ before.nodes.ghost_name)

abbrev pub Becomes : (Mem → Mem) → Memory → Memory → Type 0
Becomes change before after = SameBuffers before after × (mem after ≡ change (mem before))

-- a piece is put where the memory goes on
abbrev pub put : Piece → Mem → Mem
put p m =
    record {
      check = m.check;
      limit = m.limit;
      text = stored m.check m.text m.t p.text;
      t = m.t + length p.text;
      rows = stored m.check m.rows m.r (p.rows m.t m.n);
      r = m.r + length (p.rows m.t m.n);
      nodes = stored m.check m.nodes (m.n * width) (p.nodes m.t m.n);
      n = m.n + p.size;
    }

-- what a reader answers, with the memory after it
pub data Loaded (A : Type 0) : Type 0 where
  loaded : A → Mem → Loaded A
  failed : Refusal → Loaded A

unfoldable pub told : {A : Type 0} → Result A Refusal → Mem → Loaded A
told (Ok a) m = loaded a m
told (Err e) m = failed e

-- What was read up to a place leaves a piece in memory, and is answered by something of it, of the place and of the memory before.
unfoldable pub load : {A B : Type 0} → (A → ℕ → Mem → B) → (A → Piece) → Got A → Mem → Loaded B
load answer piece (Ok (a, q)) m = loaded (answer a q m) (put (piece a) m)
load answer piece (Err e) m = failed e

abbrev pub Loads : {A B : Type 0} → (A → ℕ → Mem → B) → (A → Piece) → Got A → Memory → Memory → Result B Refusal → Type 0
Loads answer piece g before after x = SameBuffers before after × (told x (mem after) ≡ load answer piece g (mem before))

-- A text is answered by where it lies then and the place past it, a row or a descriptor by the place past it, a message by itself.
abbrev pub lies : List ℕ → ℕ → Mem → Span × ℕ
lies x q m = (span_of m.t x, q)

abbrev pub past : {A : Type 0} → A → ℕ → Mem → ℕ
past a q m = q

abbrev pub says : Laid → ℕ → Mem → Message
says l q m = l.message

-- a text that was found lies in the bytes, behind place t
unfoldable pub Ahead : ℕ → List ℕ → Got Span → Type 0
Ahead t s (Ok (x, next)) = (t ≤ x.start) × (x.start + x.len ≤ length s)
Ahead t s (Err e) = Unit

-- At place `at` of the bytes, so much of them has been read that no place in text or nodes overflows; and none in rows.
abbrev pub Fits : List ℕ → ℕ → Mem → Type 0
Fits s at m = (m.t + m.n ≤ at) × (at ≤ length s)

abbrev pub RowFits : List ℕ → ℕ → Mem → Type 0
RowFits s at m = Fits s at m × (m.r ≤ 2 * at)

-- What follows a type's name. The last three numbers of the type's row are told by it.
abbrev pub sides : ℕ → Format (Bool × (Tree (List ℕ) × Optional (Tree (List ℕ))))
sides limit = wide_flag ⊗ descriptor limit ⊗ optional (descriptor limit)

abbrev pub lay_sides : Bool × (Tree (List ℕ) × Optional (Tree (List ℕ))) → Piece
lay_sides c = cells (λ t n. bit c.0 ∷ bit (has_value c.1.1) ∷ n ∷ []) ⊕ tree c.1.0 ⊕ lay_value c.1.1

-- what was read, laid out
abbrev pub laid_as : {A : Type 0} → (A → Laid) → Got A → Got Laid
laid_as lay g = then g (λ a q. Ok (lay a, q))

-- A reader of messages starts with a memory of which nothing is taken. It answers the message as it is laid out, and leaves its piece.
abbrev pub Empty : Memory → Type 0
Empty m = (m.t ≡ 0) × (m.r ≡ 0) × (m.n ≡ 0)

abbrev pub ReadsInto : Got Laid → Memory → Memory → Result Message Refusal → Type 0
ReadsInto g before after x = Loads says (λ l. l.piece) g before after x

-- a message without texts, rows and nodes
unfoldable pub bare : Got Laid → Result Message Refusal
bare (Ok (l, q)) = Ok l.message
bare (Err e) = Err e

-- what it leaves of the lent memory
abbrev pub bare_left : Result Message Refusal → List ℕ → List ℕ → List ℕ → Left Message
bare_left (Ok m) tx rs nd = record { answer = Ok m; text = clear_from tx 0; rows = clear_from rs 0; nodes = clear_from nd 0 }
bare_left (Err e) tx rs nd = kept e tx rs nd

-- the fields of a finished reply
abbrev pub lay_finished : Finished → Laid
lay_finished f = lay_reply (finished f)

-- a message and how much it takes of text, rows and nodes, and the memory that it was read into from the start on
abbrev pub Sized : Type 0
Sized = Message × ℕ × ℕ × ℕ

pub record ReadsWhole (check : Bool) (g : Got Laid) (tx rs nd : List ℕ) (x : Result Sized Refusal) (tx' rs' nd' : List ℕ) : Type 0 where
  pub refused : (e : Refusal) → g ≡ Err e → x ≡ Err e
  pub read : (l : Laid) (q : ℕ) → g ≡ Ok (l, q) → x ≡ Ok (l.message, length l.piece.text, length (l.piece.rows 0 0), length (l.piece.nodes 0 0))
  pub left : (l : Laid) (q : ℕ) → g ≡ Ok (l, q)
      → (tx' ≡ stored check tx 0 l.piece.text) × (rs' ≡ stored check rs 0 (l.piece.rows 0 0)) × (nd' ≡ stored check nd 0 (l.piece.nodes 0 0))

-- an entry that names no message
abbrev pub Opaque : ℕ → Type 0
Opaque entry = (entry ≡ 0) ⊎ (12 < entry)

-- an entry that names one of the messages that take memory: not one of numbers alone
pub record RoomyEntry (entry : ℕ) : Type 0 where
  pub some : 0 < entry
  pub most : entry ≤ 11
  pub ready : entry ≡ 2 → ⊥
  pub complete : entry ≡ 4 → ⊥
