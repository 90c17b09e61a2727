-- How much memory a message takes, by its bytes: each byte of text, each row and each node costs a byte or more that was read.
use mathlib.Core.Bool.{◌&&◌}
use mathlib.Core.Path.{◌≡◌, refl, sym, ◌∙◌, ap}
use mathlib.Core.List.{List, [], ◌∷◌, ◌++◌}
use Prim.Native.Nat.{ℕ, ◌+◌, ◌-◌, ◌*◌, ◌≤◌}
use native.Mathlib.Omega.{arith}
use lib.Dec.{ltb, leb, eqb}
use lib.ListN.{length, length-append, length-drop}
use borrow.Author.Tests.{ltb-false}
use Rattle.varint.specs.Choice.{pick}
use Rattle.varint.specs.Fixed.{put_le}
use Rattle.varint.specs.Got.{Got}
use Rattle.varint.specs.Formats.{Format, read_times, print_all, counted}
use Rattle.varint.specs.Leb128.{put_u64}
use Rattle.varint.specs.Stores.{part}
use Rattle.varint.specs.declared.error.Mismatch.TheVariants as M
use Rattle.varint.specs.declared.error.Refusal.{Refusal}
use Rattle.varint.specs.declared.error.Refusal.TheVariants.{UnexpectedEof, LengthOutOfRange, BlockTooLarge}
use Rattle.varint.proofs.Basics.{pick_both, pick_cases}
use Rattle.varint.proofs.FormatEnds.{Ends, varint_ends, fixed_ends, pair_ends, named_ends, total, times_ends, counted_ends, text_ends, name_ends}
use Rattle.varint.proofs.FormatParts.{times_length}
use Rattle.varint.proofs.Gots.{no_got, got_of}
use Rattle.varint.proofs.StoreLaws.{length_part}
use Rattle.desc.proofs.GotAs.{GotAs, got_as}
use Rattle.protocol.specs.Control.{to_control, from_control, control, read_control, lay_control}
use Rattle.protocol.specs.Error.{to_error, from_error, error, read_error, lay_error}
use Rattle.protocol.specs.Fields.{counted_to, raw, to_end}
use Rattle.protocol.specs.Fetch.{to_fetch, from_fetch, max_fetch, digest_on, print_digest, digest, fetch, read_fetch, lay_fetch}
use Rattle.protocol.specs.Ids.{id_width, lay_id, read_ids, lay_ids}
use Rattle.protocol.specs.Page.{to_page, from_page, page, read_page, lay_page}
use Rattle.protocol.specs.Pieces.{Piece, none, words, ◌⊕◌, many}
use Rattle.protocol.specs.Profile.{read_profile, step_width, lay_step, lay_profile}
use Rattle.protocol.specs.Complete.{read_complete, lay_complete}
use Rattle.protocol.specs.Listing.{read_listing, lay_listing}
use Rattle.protocol.specs.Ready.{read_ready, lay_ready}
use Rattle.protocol.specs.Reply.{Reply, created, finished, removed, to_finished, from_finished, finish, reply_on, print_reply, reply, read_reply, lay_reply}
use Rattle.protocol.specs.Said.{Said, said_startup, said_ready, said_error, said_complete, said_ids, said_types, said_control, said_reply, said_profile, said_page, said_fetch, said_listing, saying, read_entry, read_message, lay}
use Rattle.protocol.specs.Startup.{to_startup, from_startup, startup, read_startup, claim_width, lay_claim, lay_startup}
use Rattle.protocol.specs.Types.{read_types, type_width, lay_predicate, lay_types}
use Rattle.protocol.specs.Wholes.{ended}
use Rattle.protocol.specs.declared.message.ControlOp.{ControlOp}
use Rattle.protocol.specs.declared.message.ControlOp.TheVariants.{Create, Finish, Remove}
use Rattle.protocol.proofs.FieldEnds.{spared, byte_ends, chain_ends, then_ends, stays, flag_ends, mode_ends, code_ends, op_ends, to_end_got}
use Rattle.protocol.proofs.PieceLaws.{rows_length, many_seven}
use Rattle.protocol.proofs.WholeLaws.{ended_got, versioned_got}
use Rattle.protocol.proofs.RowEnds.{weight, claim_ends, step_ends, fact_ends, predicate_ends, predicate_nodes, predicate_rows}
use Rattle.std.specs.Prelude.{Ok, Err, Some, Option}

digest_on_lem : (s : List ℕ) (p b : ℕ) (d : Option ℕ) (q : ℕ) → p ≤ length s → digest_on b s p ≡ Ok (d, q) → (p + 0 ≤ q) × (q ≤ length s)
digest_on_lem s p b d q h =
    pick_cases P (eqb b 0) (λ _ e. stays h (got_of e).1)
    (λ _. pick_cases P (eqb b 1)
    (λ _. then_ends Some (λ d. 0) (λ d. refl) varint_ends s p d q h)
    (λ _. no_got))
  where
    P : Got (Option ℕ) → Type 0
    P x = x ≡ Ok (d, q) → (p + 0 ≤ q) × (q ≤ length s)

digest_ends : Ends digest (λ d. 0) 1
digest_ends = chain_ends digest_on print_digest (λ d. 0) (byte_ends UnexpectedEof) digest_on_lem

raw_ends : Ends raw length 4
raw_ends =
    chain_ends (λ n s p. pick (ltb (length s - p) n) (Err UnexpectedEof) (Ok (part s p n, p + n))) (λ x. put_le 4 (length x) ++ x) length (fixed_ends 4)
    (λ s p n x q h e.
    let y = spared (ltb (length s - p) n) _ _ e in
    let room = ltb-false (length s - p) n y.0 in
    let w = got_of y.1 in
    let w₁ = w.1 in
    let l : length x ≡ n = sym (ap length w.0) ∙ length_part s p n (omega arith) in
    (omega arith, omega arith))

to_end_ends : Ends to_end length 0
to_end_ends =
    record {
      ends = λ s at x q h e.
          let w = to_end_got s at x q e in
          let l : length x ≡ length s - at = ap length (sym w.0) ∙ length-drop at s in
          let w₁ = w.1 in
          (omega arith, omega arith);
    }

-- Rows

many_weight : {A : Type 0} (piece : A → Piece) (l : List A) → weight (many piece l) ≡ total (λ a. weight (piece a)) l
unfolding many total
many_weight piece [] = refl
many_weight piece (a ∷ l) = let i = many_weight piece l in simp length-append (omega arith)

module _ {A : Type 0} {f : Format A} {k : ℕ} (piece : A → Piece) (F : Ends f (λ a. weight (piece a)) k) where
  counted_rows : Ends (counted f) (λ l. weight (many piece l) + length l * k) 1
  counted_rows = record { ends = λ s at l q h e. rw (many_weight piece l) ((counted_ends F).ends s at l q h e) }

  counted_to_rows : (limit : List ℕ → ℕ) (why : ℕ → ℕ → Refusal) → Ends (counted_to limit why f) (λ l. weight (many piece l) + length l * k) 1
  counted_to_rows limit why =
      chain_ends (λ n s p. pick (ltb (limit s) n) (Err (why n (limit s))) (read_times f n s p)) (λ l. put_u64 (length l) ++ print_all f l)
      (λ l. weight (many piece l) + length l * k) varint_ends
      (λ s p n l q h e.
      let x = (spared (ltb (limit s) n) _ _ e).1 in
      rw (many_weight piece l, times_length f n s p l q x) ((times_ends F n).ends s p l q h x))

-- Messages

-- the lent memory that a piece takes, where n bytes were read
abbrev pub Small : Piece → ℕ → Type 0
Small p n = (length p.text ≤ n) × (length (p.rows 0 0) ≤ 2 * n) × (length (p.nodes 0 0) ≤ 7 * n)

none_small : (n : ℕ) → Small none n
none_small n = (omega arith, omega arith, omega arith)

words_small : (x : List ℕ) (n : ℕ) → length x ≤ n → Small (words x) n
words_small x n h = (h, omega arith, omega arith)

-- a text, and rows of so many numbers each, of which each was read from k bytes or more
rows_small : {A : Type 0} (piece : A → Piece) (width k : ℕ) → ((a : A) (t n : ℕ) → length ((piece a).rows t n) ≡ width)
    → ((a : A) (t n : ℕ) → length ((piece a).nodes t n) ≡ (piece a).size * 7) → ((c : ℕ) → c * width ≤ 2 * (c * k))
    → (x : List ℕ) (l : List A) (n : ℕ) → length x + (weight (many piece l) + length l * k) ≤ n → Small (words x ⊕ many piece l) n
rows_small piece width k wide seven few x l n h =
    let r = rows_length piece width wide l (0 + length x) 0 in
    let d = many_seven piece seven l (0 + length x) 0 in
    let c = few (length l) in
    (simp length-append (omega arith), omega arith, omega arith)

finish_ends : Ends finish (λ f. 0) 4
finish_ends =
    named_ends to_finished from_finished (λ f. 0) (λ c. refl)
    (pair_ends varint_ends (pair_ends varint_ends (pair_ends varint_ends (flag_ends M.AlreadyComplete))))

abbrev reply_text : Reply → ℕ
reply_text (created i) = length i
reply_text (finished f) = 0
reply_text removed = 0

reply_on_lem : (s : List ℕ) (p : ℕ) (o : ControlOp) (r : Reply) (q : ℕ) → p ≤ length s → reply_on o s p ≡ Ok (r, q)
    → (p + reply_text r ≤ q) × (q ≤ length s)
reply_on_lem s p Create r q h e = then_ends created reply_text (λ i. refl) name_ends s p r q h e
reply_on_lem s p Finish r q h e = then_ends finished reply_text (λ f. refl) finish_ends s p r q h e
reply_on_lem s p Remove r q h e = let w = got_of e in rw (← w.0) (stays h w.1)

reply_ends : Ends reply reply_text 1
reply_ends = chain_ends (λ o s p. reply_on o s p) print_reply reply_text op_ends reply_on_lem

reply_small : (r : Reply) (n : ℕ) → reply_text r ≤ n → Small (lay_reply r).piece n
unfolding lay_reply
reply_small (created i) n h = words_small i n h
reply_small (finished f) n h = none_small n
reply_small removed n h = none_small n

startup_ends : Ends startup (λ m. length m.database + (weight (many lay_claim m.claims) + length m.claims * 2)) 5
startup_ends =
    named_ends to_startup from_startup (λ m. length m.database + (weight (many lay_claim m.claims) + length m.claims * 2)) (λ c. omega arith)
    (pair_ends varint_ends (pair_ends name_ends (pair_ends mode_ends (pair_ends varint_ends (counted_rows lay_claim claim_ends)))))

error_ends : Ends error (λ m. length m.text) 2
error_ends = named_ends to_error from_error (λ m. length m.text) (λ c. omega arith) (pair_ends code_ends text_ends)

control_ends : Ends control (λ m. length m.database + length m.schema) 4
control_ends =
    named_ends to_control from_control (λ m. length m.database + length m.schema) (λ c. omega arith)
    (pair_ends op_ends (pair_ends name_ends (pair_ends (flag_ends M.ControlFlag) text_ends)))

page_ends : Ends page (λ m. length m.cursor + length m.query) 12
page_ends =
    named_ends to_page from_page (λ m. length m.cursor + length m.query) (λ c. omega arith)
    (pair_ends (fixed_ends 8) (pair_ends raw_ends to_end_ends))

fetch_ends : Ends fetch (λ m. weight (many lay_id m.ids) + length m.ids * 2) 2
fetch_ends =
    named_ends to_fetch from_fetch (λ m. weight (many lay_id m.ids) + length m.ids * 2) (λ c. omega arith)
    (pair_ends digest_ends (counted_to_rows lay_id fact_ends (λ _. max_fetch) BlockTooLarge))

module _ (limit : ℕ) (s : List ℕ) where
  abbrev Fits : Said → ℕ → Type 0
  Fits m q = Small (lay m).piece (length s)

  -- a message all of whose readings fit
  bare : {A : Type 0} (to : A → Said) (x : Got A) → ((a : A) (q : ℕ) → x ≡ Ok (a, q) → Fits (to a) q) → GotAs Fits (saying to x)
  bare to (Ok (a, q)) h = h a q refl
  bare to (Err e) h = tt

  module _ {A : Type 0} {f : Format A} {w : A → ℕ} {k : ℕ} (to : A → Said) (F : Ends f w k) (h : (a : A) → w a ≤ length s → Fits (to a) 0) where
    at_all : (a : A) (q : ℕ) → f.read s 0 ≡ Ok (a, q) → Fits (to a) 0
    at_all a q e = let i = F.ends s 0 a q (omega arith) e in let i₀ = i.0 in let i₁ = i.1 in h a (omega arith)

    -- bytes may follow it
    loose : GotAs Fits (saying to (f.read s 0))
    loose = bare to (f.read s 0) at_all

    -- nothing may
    strict : GotAs Fits (saying to (ended s (f.read s 0)))
    strict = bare to (ended s (f.read s 0)) (λ a q e. let x = ended_got f s a q e in at_all a x.next x.read)

  entry_fits : (entry : ℕ) → GotAs Fits (read_entry limit entry s)
  unfolding read_entry read_startup read_error read_ids read_types read_control read_reply read_profile read_page read_fetch lay lay_startup lay_ready lay_error lay_complete lay_ids lay_types lay_control lay_profile lay_page lay_fetch lay_listing
  entry_fits entry =
      pick_both (GotAs Fits) (eqb entry 1)
      (bare said_startup (read_startup s)
      (λ m q e.
      let x = versioned_got startup (λ c. c.version) s m q e in
      at_all said_startup startup_ends
      (λ c h. rows_small lay_claim claim_width 2 (λ c t n. refl) (λ c t n. refl) (λ n. omega arith) c.database c.claims (length s) h)
      m x.next x.read))
      (pick_both (GotAs Fits) (eqb entry 2) (bare said_ready (read_ready s) (λ m q e. none_small (length s)))
      (pick_both (GotAs Fits) (eqb entry 3) (loose said_error error_ends (λ m h. words_small m.text (length s) h))
      (pick_both (GotAs Fits) (eqb entry 4) (bare said_complete (read_complete s) (λ m q e. none_small (length s)))
      (pick_both (GotAs Fits) (eqb entry 5)
      (loose said_ids (counted_rows lay_id varint_ends)
      (λ l h. rows_small lay_id id_width 1 (λ c t n. refl) (λ c t n. refl) (λ n. omega arith) [] l (length s) (omega arith)))
      (pick_both (GotAs Fits) (eqb entry 6)
      (loose said_types (counted_rows lay_predicate (predicate_ends limit))
      (λ l h. rows_small lay_predicate type_width 4 predicate_rows predicate_nodes (λ n. omega arith) [] l (length s) (omega arith)))
      (pick_both (GotAs Fits) (eqb entry 7)
      (strict said_control control_ends (λ m h. words_small (m.database ++ m.schema) (length s) (simp length-append h)))
      (pick_both (GotAs Fits) (eqb entry 8) (strict said_reply reply_ends (λ r h. reply_small r (length s) h))
      (pick_both (GotAs Fits) (eqb entry 9)
      (strict said_profile (counted_to_rows lay_step step_ends length LengthOutOfRange)
      (λ l h. rows_small lay_step step_width 3 (λ c t n. refl) (λ c t n. refl) (λ n. omega arith) [] l (length s) (omega arith)))
      (pick_both (GotAs Fits) (eqb entry 10)
      (loose said_page page_ends (λ m h. words_small (m.cursor ++ m.query) (length s) (simp length-append h)))
      (pick_both (GotAs Fits) (eqb entry 11)
      (strict said_fetch fetch_ends
      (λ m h. rows_small lay_id id_width 2 (λ c t n. refl) (λ c t n. refl) (λ n. omega arith) [] m.ids (length s) (omega arith)))
      (pick_both (GotAs Fits) (eqb entry 12) (bare said_listing (read_listing s) (λ m q e. none_small (length s)))
      (words_small s (length s) (omega arith)))))))))))))

pub entry_sizes : (limit : ℕ) (s : List ℕ) (entry : ℕ) (m : Said) (q : ℕ) → read_entry limit entry s ≡ Ok (m, q) → Small (lay m).piece (length s)
entry_sizes limit s entry m q = got_as (Fits limit s) (read_entry limit entry s) m q (entry_fits limit s entry)

-- A message of n bytes takes at most n bytes of text, 2 n numbers of rows and 7 n numbers of nodes.
pub message_sizes : (max limit entry : ℕ) (s : List ℕ) (m : Said) (q : ℕ) → read_message max limit entry s ≡ Ok (m, q)
    → (length (lay m).piece.text ≤ length s) × (length ((lay m).piece.rows 0 0) ≤ 2 * length s) × (length ((lay m).piece.nodes 0 0) ≤ 7 * length s)
unfolding read_message
message_sizes max limit entry s m q e =
    got_as (Fits limit s) (read_message max limit entry s) m q
    (pick_both (GotAs (Fits limit s)) (ltb 0 entry && leb entry 12 && ltb max (length s)) tt (entry_fits limit s entry)) e
