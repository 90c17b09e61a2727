-- What an encoder looks at before it writes, as the code has it: 19(2), 19(4), 19(3), then the texts in reading order.
use Rattle.std.specs.Prelude.{Bool, true, ◌≡◌, refl, List, [], ◌∷◌, ℕ, zero, suc, ◌+◌, ◌*◌, ◌/◌, ◌≤◌, ltb, length, take, get_or, Ok, Result, Err, Some, None, Option}
use Rattle.varint.specs.Choice.{pick}
use Rattle.varint.specs.Gathering.{Held, held, lacks, name_held, text_held}
use Rattle.varint.specs.Stores.{part}
use Rattle.varint.specs.Utf8.{utf8, scan, lead}
use Rattle.varint.specs.declared.error.Fault.TheVariants.{Texts, RowCount, Number}
use Rattle.varint.specs.declared.error.Refusal.TheVariants.{BadMessage, BlockTooLarge}
use Rattle.desc.specs.Emitting.{verdict, then_names, span_size, emitted_to}
use Rattle.desc.specs.declared.write.Emitted.{Emitted}
use Rattle.varint.specs.Got.{Got}
use Rattle.varint.specs.Inner.Again.{Accepted}
use Rattle.varint.specs.Leb128.{put_by, put_u64}
use Rattle.desc.specs.Encoding.{held_in}
use Rattle.desc.specs.Layout.{end_at}
use Rattle.desc.specs.Table.{cell, root_name, discriminant_fits, predicate_fits, is_branch, leaf_fits, node_fits, table}
use Rattle.desc.specs.Trees.{Tree}
use Rattle.protocol.specs.Fetch.{max_fetch}
use Rattle.protocol.specs.Fields.{yes}
use Rattle.protocol.specs.Page.{raw_held}
use Rattle.protocol.specs.Profile.{step_numbers}
use Rattle.protocol.specs.Rows.{width_of}
use Rattle.protocol.specs.RowsHeld.{all_good}
use Rattle.protocol.specs.Types.{type_numbers, types_laid}
use Rattle.protocol.specs.declared.message.ControlReply.{ControlReply}
use Rattle.protocol.specs.declared.message.ControlReply.TheVariants as R
use Rattle.protocol.specs.declared.message.Message.{Message}
use Rattle.protocol.specs.declared.message.Message.TheVariants as Msg
use Rattle.protocol.specs.declared.message.RowKind.{RowKind}
use Rattle.protocol.specs.declared.message.RowKind.TheVariants.{Claim, Id, Predicate, Step, Pair}
use Rattle.varint.specs.declared.text.Span.{Span}
use Rattle.varint.specs.declared.error.Refusal.{Refusal}
use Rattle.varint.specs.Texts.{span}

-- how many rows a list of numbers has; what is over is none
abbrev pub row_count : RowKind → List ℕ → ℕ
row_count kind rs = length rs / width_of kind

-- are the numbers of the row at number r such that a message may have them?
unfoldable pub row_good : RowKind → List ℕ → ℕ → Bool
row_good Claim rs r = true
row_good Id rs r = true
row_good Predicate rs r = type_numbers rs r
row_good Step rs r = step_numbers rs r
row_good Pair rs r = true

-- so for all rows; only steps and types have such numbers
unfoldable pub numbers_fine : RowKind → List ℕ → ℕ → Bool
numbers_fine Claim rs count = true
numbers_fine Id rs count = true
numbers_fine Predicate rs count = all_good (row_good Predicate rs) (width_of Predicate) count 0
numbers_fine Step rs count = all_good (row_good Step rs) (width_of Step) count 0
numbers_fine Pair rs count = true

-- the same, and what is said where a message may not have them
unfoldable pub numbers_told : RowKind → List ℕ → ℕ → Result (Unit {0}) Refusal
numbers_told kind rs count = pick (numbers_fine kind rs count) (Ok tt) (Err (BadMessage Number))

-- are the nodes of the rows laid out? Only types have nodes.
unfoldable pub nodes_fine : RowKind → ℕ → List ℕ → List ℕ → ℕ → Result (Unit {0}) Refusal
nodes_fine Claim limit rs nd count = Ok tt
nodes_fine Id limit rs nd count = Ok tt
nodes_fine Predicate limit rs nd count = verdict (types_laid limit rs nd count 0 0)
nodes_fine Step limit rs nd count = Ok tt
nodes_fine Pair limit rs nd count = Ok tt

-- the root of a type's value, where the type has one: the node after its key, whose root is node `key`
unfoldable pub value_root : List ℕ → ℕ → ℕ → Option ℕ
value_root nd has key = pick (yes has) (Some (cell nd key end_at)) None

-- the nodes of a type's value, where it has one, are laid out as those of a tree
abbrev pub ValueLaid : ℕ → List ℕ → Option ℕ → Type 0
ValueLaid limit nd None = Unit
ValueLaid limit nd (Some n) = Accepted (table limit nd n 0)

-- so are the nodes of the row at number r; only types have nodes
abbrev pub RowLaid : RowKind → ℕ → List ℕ → List ℕ → ℕ → Type 0
RowLaid Claim limit rs nd r = Unit
RowLaid Id limit rs nd r = Unit
RowLaid Predicate limit rs nd r =
    Accepted (table limit nd (get_or rs (r + 5) 0) 0) × ValueLaid limit nd (value_root nd (get_or rs (r + 4) 0) (get_or rs (r + 5) 0))
RowLaid Step limit rs nd r = Unit
RowLaid Pair limit rs nd r = Unit

-- the names of a type's value, where it has one
unfoldable pub value_names : ℕ → List ℕ → List ℕ → Option ℕ → Result (Unit {0}) Refusal
value_names limit tx nd None = Ok tt
value_names limit tx nd (Some n) = verdict (held_in (table limit nd n 0) tx)

-- the texts of the row at number r
unfoldable pub row_names : RowKind → ℕ → List ℕ → List ℕ → List ℕ → ℕ → Result (Unit {0}) Refusal
row_names Claim limit tx rs nd r = verdict (name_held tx (get_or rs r 0) (get_or rs (r + 1) 0))
row_names Id limit tx rs nd r = Ok tt
row_names Predicate limit tx rs nd r =
    then_names (verdict (name_held tx (get_or rs (r + 1) 0) (get_or rs (r + 2) 0)))
    (then_names (verdict (held_in (table limit nd (get_or rs (r + 5) 0) 0) tx)) (value_names limit tx nd (value_root nd (get_or rs (r + 4) 0) (get_or rs (r + 5) 0))))
row_names Step limit tx rs nd r = verdict (name_held tx (get_or rs r 0) (get_or rs (r + 1) 0))
row_names Pair limit tx rs nd r = Ok tt

-- the texts of n rows from number r on
unfoldable pub rows_names : RowKind → ℕ → List ℕ → List ℕ → List ℕ → ℕ → ℕ → Result (Unit {0}) Refusal
rows_names kind limit tx rs nd zero r = Ok tt
rows_names kind limit tx rs nd (suc n) r = then_names (row_names kind limit tx rs nd r) (rows_names kind limit tx rs nd n (r + width_of kind))

-- are there `count` rows?
unfoldable pub there : RowKind → List ℕ → ℕ → Result (Unit {0}) Refusal
there kind rs count = pick (ltb (length rs) (count * width_of kind)) (Err (BadMessage RowCount)) (Ok tt)

-- the numbers of the first `count` rows
pub record Cut (kind : RowKind) (rs : List ℕ) (count : ℕ) (part : List ℕ) : Type 0 where
  pub there : count * width_of kind ≤ length rs
  pub is : part ≡ take (count * width_of kind) rs

-- `count` rows as a whole
unfoldable pub rows_fine : RowKind → ℕ → List ℕ → List ℕ → List ℕ → ℕ → Result (Unit {0}) Refusal
rows_fine kind limit tx rs nd count =
    then_names (there kind rs count)
    (then_names (numbers_told kind rs count) (then_names (nodes_fine kind limit rs nd count) (rows_names kind limit tx rs nd count 0)))

-- rows that are there, with nodes that are laid out
abbrev pub RowsFine : RowKind → ℕ → List ℕ → List ℕ → ℕ → Type 0
RowsFine kind limit rs nd count = (there kind rs count ≡ Ok tt) × (nodes_fine kind limit rs nd count ≡ Ok tt)

-- only a reply to a create has a text
unfoldable pub reply_fine : ControlReply → List ℕ → Result (Unit {0}) Refusal
reply_fine (R.Created span) tx = verdict (name_held tx span.start span.len)
reply_fine (R.Finished fingerprint facts bytes complete) tx = Ok tt
reply_fine R.Removed tx = Ok tt

-- the claims' count comes before the database's name
unfoldable pub startup_fine : Span → ℕ → List ℕ → List ℕ → List ℕ → ℕ → Result (Unit {0}) Refusal
startup_fine database limit tx rs nd count =
    then_names (there Claim rs count)
    (then_names (verdict (name_held tx database.start database.len)) (rows_names Claim limit tx rs nd count 0))

-- "12(count, 4096) for a fetch of over 4,096 ids"
unfoldable pub fetch_fine : List ℕ → ℕ → Result (Unit {0}) Refusal
fetch_fine rs count =
    then_names (there Pair rs count) (pick (ltb max_fetch count) (Err (BlockTooLarge count max_fetch)) (Ok tt))

-- is the message one that can be written?
unfoldable pub fine : ℕ → Message → List ℕ → List ℕ → List ℕ → Result (Unit {0}) Refusal
fine limit (Msg.Startup version database mode fingerprint count) tx rs nd = startup_fine database limit tx rs nd count
fine limit (Msg.Ready version fingerprint predicates) tx rs nd = Ok tt
fine limit (Msg.Error code text) tx rs nd = verdict (text_held tx text.start text.len)
fine limit (Msg.Complete first second) tx rs nd = Ok tt
fine limit (Msg.Ids count) tx rs nd = there Id rs count
fine limit (Msg.Types count) tx rs nd = rows_fine Predicate limit tx rs nd count
fine limit (Msg.Control op database allow schema) tx rs nd =
    then_names (verdict (name_held tx database.start database.len)) (verdict (text_held tx schema.start schema.len))
fine limit (Msg.Reply reply) tx rs nd = reply_fine reply tx
fine limit (Msg.Profile count) tx rs nd = rows_fine Step limit tx rs nd count
fine limit (Msg.Page most cursor query) tx rs nd =
    then_names (verdict (raw_held tx cursor.start cursor.len)) (verdict (text_held tx query.start query.len))
fine limit (Msg.Fetch digest count) tx rs nd = fetch_fine rs count
fine limit (Msg.ListingDigest predicate digest) tx rs nd = Ok tt
fine limit (Msg.Opaque payload) tx rs nd = verdict (raw_held tx payload.start payload.len)

-- The size of what may be written, or why it may not be

unfoldable pub size_if : Result (Unit {0}) Refusal → ℕ → Result ℕ Refusal
size_if (Ok _) size = Ok size
size_if (Err e) size = Err e

-- how many bytes a descriptor has by the lengths in the table
unfoldable pub tree_size : Got (Tree (ℕ × ℕ)) → ℕ
tree_size (Ok (tree, next)) = span_size tree
tree_size (Err e) = 0

-- so a type's value, where it has one
unfoldable pub value_size : ℕ → List ℕ → Option ℕ → ℕ
value_size limit nd None = 0
value_size limit nd (Some n) = tree_size (table limit nd n 0)

-- a type up to its descriptors and between them: its id, its name and two flags
unfoldable pub fields_size : List ℕ → ℕ → ℕ
fields_size rs r = length (put_u64 (get_or rs r 0)) + (length (put_u64 (get_or rs (r + 2) 0)) + (get_or rs (r + 2) 0 + 2))

-- and with its key and its value
unfoldable pub type_size : ℕ → List ℕ → List ℕ → ℕ → ℕ
type_size limit rs nd r =
    fields_size rs r
    + (tree_size (table limit nd (get_or rs (r + 5) 0) 0) + value_size limit nd (value_root nd (get_or rs (r + 4) 0) (get_or rs (r + 5) 0)))

-- a type of one letter from an int to a string
example_size : type_size 64 (3 ∷ 0 ∷ 1 ∷ 0 ∷ 1 ∷ 0 ∷ []) (0 ∷ 0 ∷ 0 ∷ 0 ∷ 0 ∷ 0 ∷ 1 ∷ 1 ∷ 0 ∷ 0 ∷ 0 ∷ 0 ∷ 0 ∷ 2 ∷ []) 0 ≡ 7
unfolding type_size fields_size tree_size value_size value_root table node_fits root_name discriminant_fits predicate_fits is_branch leaf_fits span_size put_u64 put_by
example_size = refl

-- n types from number r on
unfoldable pub types_size : ℕ → List ℕ → List ℕ → ℕ → ℕ → ℕ
types_size limit rs nd zero r = 0
types_size limit rs nd (suc n) r = type_size limit rs nd r + types_size limit rs nd n (r + width_of Predicate)

-- the node after those of a type, and the type's size, if they are laid out as nodes are
unfoldable pub sized_as : Held ℕ → ℕ → Option Emitted
sized_as (held n) size = Some (emitted_to n size)
sized_as (lacks e) size = None

-- a claim whose name is past the text's end, after one whose name is there
example_names : rows_names Claim 64 (0x61 ∷ []) (0 ∷ 1 ∷ 7 ∷ 1 ∷ 1 ∷ 8 ∷ []) [] 2 0 ≡ Err (BadMessage Texts)
unfolding rows_names row_names then_names verdict name_held text_held utf8 scan lead part
example_names = refl

-- a fetch of too many ids, and too few rows for them: 19(2) comes first
example_fetch : fetch_fine [] 4097 ≡ Err (BadMessage RowCount)
unfolding fetch_fine there then_names
example_fetch = refl
