-- A message that was read, or not, as its reader tells it.
use mathlib.Core.Bool.{Bool}
use mathlib.Core.List.{List}
use mathlib.Core.Path.{◌≡◌, refl, sym, ap, ◌∙◌}
use Prim.Native.Nat.{ℕ, ◌*◌, ◌≤◌}
use native.Mathlib.Nat.{zero-add}
use native.Mathlib.Omega.{arith}
use lib.ListN.{length}
use Rattle.std.specs.Prelude.{Ok, Err, Result}
use Rattle.varint.specs.Got.{Got}
use Rattle.varint.specs.declared.error.Refusal.{Refusal}
use Rattle.varint.proofs.Basics.{never}
use Rattle.varint.proofs.FormatParts.{went}
use Rattle.varint.proofs.Gots.{no_got, bad_of, got_of}
use Rattle.desc.specs.Layout.{width}
use Rattle.protocol.specs.Complete.{lay_complete}
use Rattle.protocol.specs.Control.{lay_control}
use Rattle.protocol.specs.Error.{lay_error}
use Rattle.protocol.specs.Fetch.{lay_fetch}
use Rattle.protocol.specs.Ids.{lay_id, lay_ids}
use Rattle.protocol.specs.Inner.Loading.{Mem, put, loaded, told, load, laid_as, bare, Sized, ReadsWhole, lay_finished, says}
use Rattle.protocol.specs.Laying.{Laid}
use Rattle.protocol.specs.Listing.{lay_listing}
use Rattle.protocol.specs.Page.{lay_page}
use Rattle.protocol.specs.Pieces.{Piece, none, words, many}
use Rattle.protocol.specs.Profile.{lay_step, lay_profile}
use Rattle.protocol.specs.Ready.{lay_ready}
use Rattle.protocol.specs.Reply.{finish, lay_reply, Reply, created, finished, removed}
use Rattle.protocol.specs.Said.{Said, saying, read_entry, lay, said_startup, said_ready, said_error, said_complete, said_ids, said_types, said_control, said_reply, said_profile, said_page, said_fetch, said_listing, opaque}
use Rattle.protocol.specs.Startup.{lay_claim, lay_startup}
use Rattle.protocol.specs.Types.{lay_predicate, lay_types}
use Rattle.protocol.specs.Wholes.{ended}
use Rattle.protocol.specs.declared.message.Message.{Message}
use Rattle.protocol.proofs.Loads.{loads, fails, had}
use Rattle.protocol.proofs.PieceLaws.{put_none, Seven, join_seven, many_seven}
use Rattle.protocol.proofs.RowEnds.{predicate_nodes}
use Rattle.protocol.proofs.RowStores.{stored_none}
use Rattle.protocol.proofs.Sizes.{entry_sizes}

-- a message that has none of them if it is read: it leaves any memory as it is
pub bare_into : (m : Mem) (g : Got Laid) (x : Result Message Refusal) → ((l : Laid) (q : ℕ) → g ≡ Ok (l, q) → l.piece ≡ none) → x ≡ bare g
    → told x m ≡ load says (λ l. l.piece) g m
unfolding bare told load
bare_into m (Ok (l, q)) x z e = rw e (sym (ap (λ (p : Piece). loaded l.message (put p m)) (z l q refl) ∙ ap (loaded l.message) (put_none m)))
bare_into m (Err r) x z e = rw e refl

-- and takes none
abbrev pub plainly : Result Message Refusal → Result Sized Refusal
plainly (Ok m) = Ok (m, 0, 0, 0)
plainly (Err e) = Err e

pub bare_whole : (check : Bool) (tx rs nd : List ℕ) (g : Got Laid) {x : Result Message Refusal} → ((l : Laid) (q : ℕ) → g ≡ Ok (l, q) → l.piece ≡ none) → x ≡ bare g
    → ReadsWhole check g tx rs nd (plainly x) tx rs nd
unfolding bare
bare_whole check tx rs nd (Ok (l, q)) z e =
    record {
      refused = λ r i. no_got (sym i);
      read = λ k o i. let w = got_of i in rw (e, ← w.0, z l q refl) refl;
      left = λ k o i. let w = got_of i in rw (← w.0, z l q refl) (sym (stored_none check tx 0), sym (stored_none check rs 0), sym (stored_none check nd 0));
    }
bare_whole check tx rs nd (Err r) z e = record { refused = λ o i. let w = bad_of i in rw (e, ← w) refl; read = λ l q. no_got; left = λ l q. no_got }

-- a message that is refused, and one that is laid out as it is read
pub laid_refused : {g : Got Laid} (m m' : Mem) {e : Refusal} → g ≡ Err e → told (Err e) m' ≡ load says (λ l. l.piece) g m
laid_refused = fails says (λ l. l.piece)

pub laid_read : {g : Got Laid} {l : Laid} {q : ℕ} → g ≡ Ok (l, q) → (m m' : Mem) {x : Message} → x ≡ l.message → m' ≡ put l.piece m
    → told (Ok x) m' ≡ load says (λ l. l.piece) g m
laid_read i m m' s l = loads says (λ l. l.piece) m m' i s l

-- a reply without texts
pub finished_bare : (s : List ℕ) (at : ℕ) (l : Laid) (q : ℕ) → laid_as lay_finished (ended s (finish.read s at)) ≡ Ok (l, q) → l.piece ≡ none
unfolding lay_reply
finished_bare s at l q e =
    let w = went (ended s (finish.read s at)) (λ a o. Ok (lay_finished a, o)) l q e in
    ap (λ (y : Laid). y.piece) (sym (got_of w.rest).0)

-- a message of its own number
pub said_laid : {A : Type 0} (to : A → Said) (lay_a : A → Laid) → ((a : A) → lay (to a) ≡ lay_a a) → (g : Got A) → laid_as lay (saying to g) ≡ laid_as lay_a g
said_laid to lay_a same (Ok (a, q)) = ap (λ (l : Laid). Ok (l, q)) (same a)
said_laid to lay_a same (Err e) = refl

pub laid_bare : {A : Type 0} (lay_a : A → Laid) → ((a : A) → (lay_a a).piece ≡ none) → (g : Got A) (l : Laid) (q : ℕ) → laid_as lay_a g ≡ Ok (l, q) → l.piece ≡ none
laid_bare lay_a none_is g l q e =
    let w = went g (λ a o. Ok (lay_a a, o)) l q e in
    rw (← (got_of w.rest).0) (none_is w.value)

-- a message of numbers alone, by the entry that names it: it is read as it is laid out, at any depth of descriptors, and takes no memory
pub record ReadsEntry (entry : ℕ) (s : List ℕ) (x : Result Message Refusal) : Type 0 where
  pub reads : (limit : ℕ) → x ≡ bare (laid_as lay (read_entry limit entry s))
  pub empty : (limit : ℕ) (l : Laid) (q : ℕ) → laid_as lay (read_entry limit entry s) ≡ Ok (l, q) → l.piece ≡ none

pub entry_bare : {A : Type 0} (to : A → Said) (lay_a : A → Laid) → ((a : A) → lay (to a) ≡ lay_a a) → ((a : A) → (lay_a a).piece ≡ none)
    → {entry : ℕ} {s : List ℕ} {x : Result Message Refusal} (g : Got A) → ((limit : ℕ) → read_entry limit entry s ≡ saying to g)
    → x ≡ bare (laid_as lay_a g) → ReadsEntry entry s x
entry_bare to lay_a same none_is {entry} {s} g h r =
    let e : (limit : ℕ) → laid_as lay (read_entry limit entry s) ≡ laid_as lay_a g = λ limit. ap (laid_as lay) (h limit) ∙ said_laid to lay_a same g in
    record { reads = λ limit. rw (e limit) r; empty = λ limit l q i. laid_bare lay_a none_is g l q (sym (e limit) ∙ i) }

-- the nodes of a message are seven numbers each
reply_seven : (m : Reply) → Seven (lay_reply m).piece
unfolding lay_reply
reply_seven (created i) = λ t n. refl
reply_seven (finished f) = λ t n. refl
reply_seven removed = λ t n. refl

said_seven : (v : Said) → Seven (lay v).piece
unfolding lay lay_startup lay_ready lay_error lay_complete lay_ids lay_types lay_control lay_profile lay_page lay_fetch lay_listing
said_seven (said_startup m) = join_seven (words m.database) (many lay_claim m.claims) (λ t n. refl) (many_seven lay_claim (λ a t n. refl) m.claims)
said_seven (said_ready m) = λ t n. refl
said_seven (said_error m) = λ t n. refl
said_seven (said_complete m) = λ t n. refl
said_seven (said_ids l) = many_seven lay_id (λ a t n. refl) l
said_seven (said_types l) = many_seven lay_predicate predicate_nodes l
said_seven (said_control m) = λ t n. refl
said_seven (said_reply m) = reply_seven m
said_seven (said_profile l) = many_seven lay_step (λ a t n. refl) l
said_seven (said_page m) = λ t n. refl
said_seven (said_fetch m) = many_seven lay_id (λ a t n. refl) m.ids
said_seven (said_listing m) = λ t n. refl
said_seven (opaque s) = λ t n. refl

-- what a reading from the start of the memory on takes
module _ (check : Bool) (limit : ℕ) (s : List ℕ) (tx rs nd : List ℕ) (m' : Mem) where
  abbrev start : Mem
  start = record { check = check; limit = limit; text = tx; t = 0; rows = rs; r = 0; nodes = nd; n = 0 }

  pub from_start : {x : Message} (g : Got Said) → told (Ok x) m' ≡ load says (λ l. l.piece) (laid_as lay g) start
      → ReadsWhole check (laid_as lay g) tx rs nd (Ok (x, m'.t, m'.r, m'.n * width)) m'.text m'.rows m'.nodes
  unfolding told load
  from_start {x} (Ok (v, q)) h =
      let k : x ≡ (lay v).message = cc (h) in
      let p : m' ≡ put (lay v).piece start = cc (h) in
      record {
        refused = λ r i. no_got (sym i);
        read = λ l o i. let w = got_of i in rw (k, p, ← w.0, said_seven v 0 0, zero-add (length (lay v).piece.text), zero-add (length ((lay v).piece.rows 0 0)), zero-add (lay v).piece.size) refl;
        left = λ l o i. let w = got_of i in rw (p, ← w.0) (refl, refl, refl);
      }
  from_start (Err r) h = never (cc (h))

  -- of a message that was read from s
  pub few_nodes : (x : Message) (entry : ℕ) → told (Ok x) m' ≡ load says (λ l. l.piece) (laid_as lay (read_entry limit entry s)) start → m'.n ≤ length s
  few_nodes x entry h =
      let w = had says (λ l. l.piece) (laid_as lay (read_entry limit entry s)) start m' _ h refl in
      let v = went (read_entry limit entry s) (λ a q. Ok (lay a, q)) w.value w.next w.is in
      let p : m' ≡ put (lay v.value).piece start = w.left ∙ ap (λ (l : Laid). put l.piece start) (sym (got_of v.rest).0) in
      let n = ap (λ (y : Mem). y.n) p in
      let k = entry_sizes limit s entry v.value v.next v.first in
      let k₂ = k.2 in
      let z = said_seven v.value 0 0 in
      omega arith

  pub whole_refused : {e : Refusal} (g : Got Said) → told (Err e) m' ≡ load says (λ l. l.piece) (laid_as lay g) start → {tx' rs' nd' : List ℕ} → ReadsWhole check (laid_as lay g) tx rs nd (Err e) tx' rs' nd'
  unfolding told load
  whole_refused (Ok (v, q)) h = never (cc (h))
  whole_refused {e} (Err r) h =
      let k : e ≡ r = cc (h) in
      record { refused = λ o j. let z = bad_of j in ap Err (k ∙ z); read = λ l q. no_got; left = λ l q. no_got }
