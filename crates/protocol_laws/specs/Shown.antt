-- What a message shows whoever holds it with its memory: each number as a number, and each text by its length and its bytes. Where a text starts is
-- not shown: "Texts may overlap or stand in any order in text; decoding gives them joined." Two messages are the same exactly if they show the same.
use Rattle.std.specs.Prelude.{◌≡◌, refl, List, [], ◌∷◌, ◌++◌, ℕ, zero, suc, ◌+◌, ◌*◌, eqb, get_or, Some, None, Option}
use Rattle.varint.specs.Choice.{pick}
use Rattle.varint.specs.Stores.{part}
use Rattle.desc.specs.Layout.{end_at}
use Rattle.desc.specs.Table.{cell}
use Rattle.protocol.specs.Codes.{mode_byte, error_byte, op_byte}
use Rattle.protocol.specs.Fields.{bit}
use Rattle.protocol.specs.declared.message.ControlOp.TheVariants.{Create, Finish, Remove}
use Rattle.protocol.specs.declared.message.ControlReply.{ControlReply}
use Rattle.protocol.specs.declared.message.ControlReply.TheVariants.{Created, Finished, Removed}
use Rattle.protocol.specs.declared.message.ErrorCode.TheVariants.{UnknownDatabase}
use Rattle.protocol.specs.declared.message.Message.{Message}
use Rattle.protocol.specs.declared.message.Message.TheVariants as Msg
use Rattle.protocol.specs.declared.message.Mode.TheVariants.{ReadWrite}
use Rattle.varint.specs.declared.text.Span.{Span}

pub data Entry : Type 0 where
  number : ℕ → Entry
  text : (len : ℕ) (bytes : List ℕ) → Entry

-- "A text is a start and a length in text"
abbrev pub text_in : List ℕ → ℕ → ℕ → Entry
text_in tx start len = text len (part tx start len)

abbrev pub span_shown : List ℕ → Span → Entry
span_shown tx x = text_in tx x.start x.len

-- A column of a row: a number, or a text's start and length, which are two numbers.
pub data Column : Type 0 where
  plain : Column
  words : Column

-- "Rows: claim (name start, name length, fingerprint); id (raw id); type (id, name start, name length, virtual 0 or 1, has value 0 or 1, key's node);
-- step (label start, label length, examined, full scan 0 or 1)."
abbrev pub claim_columns : List Column
claim_columns = words ∷ plain ∷ []

abbrev pub id_columns : List Column
id_columns = plain ∷ []

abbrev pub type_columns : List Column
type_columns = plain ∷ words ∷ plain ∷ plain ∷ plain ∷ []

abbrev pub step_columns : List Column
step_columns = words ∷ plain ∷ plain ∷ []

-- "Node, seven numbers: tag, name start, name length, discriminant, fact's predicate, child count, end"
abbrev pub node_columns : List Column
node_columns = plain ∷ words ∷ plain ∷ plain ∷ plain ∷ plain ∷ []

-- how many numbers a row of these columns has
abbrev pub across : List Column → ℕ
across [] = 0
across (plain ∷ c) = suc (across c)
across (words ∷ c) = suc (suc (across c))

-- the row that starts at number r
unfoldable pub row_shown : List Column → List ℕ → List ℕ → ℕ → List Entry
row_shown [] tx l r = []
row_shown (plain ∷ c) tx l r = number (get_or l r 0) ∷ row_shown c tx l (r + 1)
row_shown (words ∷ c) tx l r = text_in tx (get_or l r 0) (get_or l (r + 1) 0) ∷ row_shown c tx l (r + 2)

-- `count` rows from number r on
unfoldable pub rows_shown : List Column → ℕ → List ℕ → List ℕ → ℕ → List Entry
rows_shown c zero tx l r = []
rows_shown c (suc count) tx l r = row_shown c tx l r ++ rows_shown c count tx l (r + across c)

-- Where the nodes of the type whose row starts at number r end: its key's node says where the key ends, the value's, if it has one, where that does.
-- "end (index past its last descendant; indexes count whole nodes from 0)", "a type's value after its key"
abbrev pub type_end : List ℕ → List ℕ → ℕ → ℕ
type_end rs nd r =
    pick (eqb (get_or rs (r + 4) 0) 0) (cell nd (get_or rs (r + 5) 0) end_at) (cell nd (cell nd (get_or rs (r + 5) 0) end_at) end_at)

-- how many nodes `count` types have: the last type's are the last
unfoldable pub node_count : ℕ → List ℕ → List ℕ → ℕ
node_count zero rs nd = 0
node_count (suc count) rs nd = type_end rs nd (count * across type_columns)

-- the message's number, 0 if it is opaque; its fields in order, a count too; and its rows and nodes
pub record Shown : Type 0 where
  pub entry : ℕ
  pub fields : List Entry
  pub rows : List Entry
  pub nodes : List Entry

abbrev pub bare : ℕ → List Entry → Shown
bare entry fields = record { entry = entry; fields = fields; rows = []; nodes = [] }

abbrev pub rowed : ℕ → List Entry → List Entry → Shown
rowed entry fields rows = record { entry = entry; fields = fields; rows = rows; nodes = [] }

abbrev pub digest_shown : Option ℕ → List Entry
digest_shown None = number 0 ∷ []
digest_shown (Some d) = number 1 ∷ number d ∷ []

-- "A control reply is created, finished or removed, each with its own fields"
abbrev pub reply_shown : List ℕ → ControlReply → List Entry
reply_shown tx (Created instance) = number (op_byte Create) ∷ span_shown tx instance ∷ []
reply_shown tx (Finished fingerprint facts bytes complete) =
    number (op_byte Finish) ∷ number fingerprint ∷ number facts ∷ number bytes ∷ number (bit complete) ∷ []
reply_shown tx Removed = number (op_byte Remove) ∷ []

-- a mode, a code and an op by their bytes, a flag as 0 or 1
unfoldable pub shown : Message → (tx rs nd : List ℕ) → Shown
shown (Msg.Startup version database mode fingerprint claims) tx rs nd =
    rowed 1 (number version ∷ span_shown tx database ∷ number (mode_byte mode) ∷ number fingerprint ∷ number claims ∷ []) (rows_shown claim_columns claims tx rs 0)
shown (Msg.Ready version fingerprint predicates) tx rs nd = bare 2 (number version ∷ number fingerprint ∷ number predicates ∷ [])
shown (Msg.Error code reason) tx rs nd = bare 3 (number (error_byte code) ∷ span_shown tx reason ∷ [])
shown (Msg.Complete first second) tx rs nd = bare 4 (number first ∷ number second ∷ [])
shown (Msg.Ids count) tx rs nd = rowed 5 (number count ∷ []) (rows_shown id_columns count tx rs 0)
shown (Msg.Types count) tx rs nd =
    record {
      entry = 6;
      fields = number count ∷ [];
      rows = rows_shown type_columns count tx rs 0;
      nodes = rows_shown node_columns (node_count count rs nd) tx nd 0;
    }
shown (Msg.Control op database allow schema) tx rs nd =
    bare 7 (number (op_byte op) ∷ span_shown tx database ∷ number (bit allow) ∷ span_shown tx schema ∷ [])
shown (Msg.Reply reply) tx rs nd = bare 8 (reply_shown tx reply)
shown (Msg.Profile count) tx rs nd = rowed 9 (number count ∷ []) (rows_shown step_columns count tx rs 0)
shown (Msg.Page limit cursor query) tx rs nd = bare 10 (number limit ∷ span_shown tx cursor ∷ span_shown tx query ∷ [])
shown (Msg.Fetch digest count) tx rs nd = rowed 11 (digest_shown digest ++ (number count ∷ [])) (rows_shown id_columns count tx rs 0)
shown (Msg.ListingDigest predicate digest) tx rs nd = bare 12 (number predicate ∷ number digest ∷ [])
shown (Msg.Opaque payload) tx rs nd = bare 0 (span_shown tx payload ∷ [])

-- How much memory it needs: of text the lengths of its texts, of rows and nodes a number for each number and two for each text.
unfoldable pub lengths : List Entry → ℕ
lengths [] = 0
lengths (number n ∷ l) = lengths l
lengths (text len bytes ∷ l) = len + lengths l

unfoldable pub numbers : List Entry → ℕ
numbers [] = 0
numbers (number n ∷ l) = suc (numbers l)
numbers (text len bytes ∷ l) = suc (suc (numbers l))

abbrev pub text_needed : Shown → ℕ
text_needed s = lengths s.fields + lengths s.rows + lengths s.nodes

abbrev pub rows_needed : Shown → ℕ
rows_needed s = numbers s.rows

abbrev pub nodes_needed : Shown → ℕ
nodes_needed s = numbers s.nodes

-- version 4, database "d" to read and write, fingerprint 7, and one claim: "a" has fingerprint 5. In this text the claim's name comes first.
example_startup : shown (Msg.Startup 4 (record { start = 1; len = 1 }) ReadWrite 7 1) (0x61 ∷ 0x64 ∷ []) (0 ∷ 1 ∷ 5 ∷ []) []
    ≡ record { entry = 1; fields = number 4 ∷ text 1 (0x64 ∷ []) ∷ number 1 ∷ number 7 ∷ number 1 ∷ []; rows = text 1 (0x61 ∷ []) ∷ number 5 ∷ []; nodes = [] }
unfolding shown rows_shown row_shown part
example_startup = refl

-- the same with the texts joined, as they are decoded, and zeros behind
example_joined : shown (Msg.Startup 4 (record { start = 0; len = 1 }) ReadWrite 7 1) (0x64 ∷ 0x61 ∷ 0 ∷ []) (1 ∷ 1 ∷ 5 ∷ 0 ∷ []) (0 ∷ [])
    ≡ shown (Msg.Startup 4 (record { start = 1; len = 1 }) ReadWrite 7 1) (0x61 ∷ 0x64 ∷ []) (0 ∷ 1 ∷ 5 ∷ []) []
unfolding shown rows_shown row_shown part
example_joined = refl

example_error : shown (Msg.Error UnknownDatabase (record { start = 0; len = 2 })) (0x6E ∷ 0x6F ∷ []) [] []
    ≡ record { entry = 3; fields = number 2 ∷ text 2 (0x6E ∷ 0x6F ∷ []) ∷ []; rows = []; nodes = [] }
unfolding shown part
example_error = refl

-- a step "s" that examined 9 facts in a full scan
example_step : shown (Msg.Profile 1) (0x73 ∷ []) (0 ∷ 1 ∷ 9 ∷ 1 ∷ []) []
    ≡ record { entry = 9; fields = number 1 ∷ []; rows = text 1 (0x73 ∷ []) ∷ number 9 ∷ number 1 ∷ []; nodes = [] }
unfolding shown rows_shown row_shown part
example_step = refl

-- Type 3 "p" whose key is a record of an int "a" and whose value is a string: three nodes. They need two bytes of text, six numbers of rows, 21 of nodes.
abbrev sample_types : Shown
sample_types =
    shown (Msg.Types 1) (0x70 ∷ 0x61 ∷ []) (3 ∷ 0 ∷ 1 ∷ 0 ∷ 1 ∷ 0 ∷ [])
    (3 ∷ 0 ∷ 0 ∷ 0 ∷ 0 ∷ 1 ∷ 2 ∷ 0 ∷ 1 ∷ 1 ∷ 0 ∷ 0 ∷ 0 ∷ 2 ∷ 1 ∷ 0 ∷ 0 ∷ 0 ∷ 0 ∷ 0 ∷ 3 ∷ [])

example_types : sample_types
    ≡ record {
      entry = 6;
      fields = number 1 ∷ [];
      rows = number 3 ∷ text 1 (0x70 ∷ []) ∷ number 0 ∷ number 1 ∷ number 0 ∷ [];
      nodes =
          number 3 ∷ text 0 [] ∷ number 0 ∷ number 0 ∷ number 1 ∷ number 2
          ∷ number 0 ∷ text 1 (0x61 ∷ []) ∷ number 0 ∷ number 0 ∷ number 0 ∷ number 2
          ∷ number 1 ∷ text 0 [] ∷ number 0 ∷ number 0 ∷ number 0 ∷ number 3 ∷ [];
    }
unfolding shown rows_shown row_shown node_count part
example_types = refl

example_needed : text_needed sample_types ∷ rows_needed sample_types ∷ nodes_needed sample_types ∷ [] ≡ 2 ∷ 6 ∷ 21 ∷ []
unfolding shown rows_shown row_shown node_count part lengths numbers
example_needed = refl
