-- Every message that is fine is read back from its bytes.
use mathlib.Core.Bool.{Bool, true, false, ◌&&◌}
use mathlib.Core.Path.{◌≡◌, refl, sym, ◌∙◌, ap}
use mathlib.Core.List.{List, [], ◌∷◌, ◌++◌, append-nil}
use Prim.Native.Nat.{ℕ, ◌+◌, ◌≤◌}
use native.Mathlib.Nat.{zero-add}
use native.Mathlib.Omega.{arith}
use lib.Dec.{ltb, leb}
use lib.ListN.{length, drop, length-append}
use lib.Seq.{drop-append-add, drop-append_seam}
use borrow.Author.Tests.{le-ltb, le-leb}
use Rattle.varint.specs.Choice.{pick}
use Rattle.varint.specs.Got.{Got, then, got}
use Rattle.varint.specs.Formats.{Format, ◌⊗◌, print_all}
use Rattle.varint.specs.Leb128.{put_u64}
use Rattle.varint.specs.RoundTrips.{Back}
use Rattle.varint.specs.Utf8.{utf8}
use Rattle.varint.specs.declared.error.Mismatch.TheVariants as M
use Rattle.varint.specs.declared.error.Refusal.TheVariants.{BlockTooLarge, UnknownPredicate, BadListingPredicate, LengthOutOfRange}
use Rattle.varint.proofs.FormatBack.{varint_back, fixed_back, text_back, name_back, pair_back, named_back, counted_back}
use Rattle.desc.specs.Trees.{Tree}
use Rattle.desc.proofs.DescFormat.{descriptor_back}
use Rattle.protocol.specs.Complete.{to_complete, from_complete, complete, read_complete}
use Rattle.protocol.specs.Control.{to_control, from_control, control, read_control}
use Rattle.protocol.specs.Error.{to_error, from_error, error, read_error}
use Rattle.protocol.specs.Fetch.{to_fetch, from_fetch, fetch, read_fetch, max_fetch}
use Rattle.desc.specs.WellFormed.{descriptor}
use Rattle.protocol.specs.Fields.{Optional, absent, present, print_optional, to_end}
use Rattle.protocol.specs.Ids.{read_ids}
use Rattle.protocol.specs.Listing.{to_listing, from_listing, listing, read_listing}
use Rattle.protocol.specs.Page.{Page, to_page, page, read_page}
use Rattle.protocol.specs.Profile.{Step, to_step, from_step, step, profile, read_profile}
use Rattle.protocol.specs.Ready.{to_ready, from_ready, ready, read_ready}
use Rattle.protocol.specs.Reply.{read_reply}
use Rattle.protocol.specs.Said.{Said, said_startup, said_ready, said_error, said_complete, said_ids, said_types, said_control, said_reply, said_profile, said_page, said_fetch, said_listing, opaque, saying, read_entry, read_message, print_said, entry_of}
use Rattle.protocol.specs.Startup.{to_claim, from_claim, claim, to_startup, from_startup, startup, read_startup}
use Rattle.protocol.specs.Types.{Predicate, to_predicate, from_predicate, predicate, read_types}
use Rattle.protocol.specs.Wholes.{ended, versioned}
use Rattle.protocol_laws.specs.Fine.{Narrow, FineClaim, FinePredicate, FineStep, FineSaid}
use Rattle.protocol_laws.proofs.FieldsBack.{back_by, narrow_back, mode_back, error_code_back, op_back, flag_back, wide_flag_back, optional_back, digest_back, reply_back, counted_to_back, raw_back, pair_id_back}
use Rattle.std.specs.Prelude.{Ok, Err}

-- The formats of the messages

claim_back : Back claim FineClaim
claim_back = named_back to_claim from_claim (λ c. refl) (pair_back name_back varint_back)

startup_back : Back startup (λ m. FineSaid 0 (said_startup m))
unfolding FineSaid
startup_back =
    back_by (λ m h. (omega arith, (h.1, (tt, (h.2, h.3)))))
    (named_back to_startup from_startup (λ m. refl) (pair_back varint_back (pair_back name_back (pair_back mode_back (pair_back varint_back (counted_back claim_back))))))

ready_back : Back ready (λ m. FineSaid 0 (said_ready m))
unfolding FineSaid
ready_back =
    back_by (λ m h. (omega arith, (h.1, h.2))) (named_back to_ready from_ready (λ m. refl) (pair_back varint_back (pair_back varint_back varint_back)))

error_back : Back error (λ m. FineSaid 0 (said_error m))
unfolding FineSaid
error_back = back_by (λ m h. (tt, h)) (named_back to_error from_error (λ m. refl) (pair_back error_code_back text_back))

complete_back : Back complete (λ m. FineSaid 0 (said_complete m))
unfolding FineSaid
complete_back = named_back to_complete from_complete (λ m. refl) (pair_back varint_back varint_back)

predicate_back : (limit : ℕ) → Back (predicate limit) (FinePredicate limit)
predicate_back limit =
    back_by (λ p h. (h.0, (h.1, (tt, (h.2, h.3)))))
    (named_back to_predicate from_predicate (λ p. refl)
    (pair_back (narrow_back (λ _. UnknownPredicate)) (pair_back name_back (pair_back wide_flag_back (pair_back (descriptor_back limit) (optional_back (descriptor_back limit)))))))

control_back : Back control (λ m. FineSaid 0 (said_control m))
unfolding FineSaid
control_back =
    back_by (λ m h. (tt, (h.0, (tt, h.1))))
    (named_back to_control from_control (λ m. refl) (pair_back op_back (pair_back name_back (pair_back (flag_back M.ControlFlag) text_back))))

step_back : Back step FineStep
step_back = back_by (λ m h. (h.0, (h.1, tt))) (named_back to_step from_step (λ m. refl) (pair_back name_back (pair_back varint_back (flag_back M.FullScan))))

fetch_back : Back fetch (λ m. FineSaid 0 (said_fetch m))
unfolding FineSaid
fetch_back =
    back_by (λ m h. (h.0, (h.1, h.2)))
    (named_back to_fetch from_fetch (λ m. refl)
    (pair_back digest_back (counted_to_back (λ _. max_fetch) BlockTooLarge (λ l. length l ≤ max_fetch) (λ l before rest h. h) pair_id_back)))

listing_back : Back listing (λ m. FineSaid 0 (said_listing m))
unfolding FineSaid
listing_back = named_back to_listing from_listing (λ m. refl) (pair_back (narrow_back BadListingPredicate) varint_back)

-- every step has its flag, so there are no more steps than bytes
steps_few : (l : List Step) → length l ≤ length (print_all step l)
unfolding print_all
steps_few [] = omega arith
steps_few (m ∷ l) = simp length-append (omega (arith, steps_few l))

profile_back : Back profile (λ l. FineSaid 0 (said_profile l))
unfolding FineSaid
profile_back = back_by (λ l h. (h, tt)) (counted_to_back length LengthOutOfRange (λ l. Unit {0}) few step_back)
  where
    few : (l : List Step) (before rest : List ℕ) → Unit {0} → length l ≤ length (before ++ ((put_u64 (length l) ++ print_all step l) ++ rest))
    few l before rest h = simp length-append (omega (arith, steps_few l))

-- A format's bytes alone

module _ {A : Type 0} {f : Format A} {P : A → Type 0} (F : Back f P) (a : A) (h : P a) where
  whole : f.read (f.print a) 0 ≡ Ok (a, length (f.print a))
  whole = ap (λ (s : List ℕ). f.read s 0) (sym (append-nil (f.print a))) ∙ F.back a h [] [] ∙ ap (got a) (zero-add (length (f.print a)))

  whole_ended : ended (f.print a) (f.read (f.print a) 0) ≡ Ok (a, length (f.print a))
  whole_ended = rw (whole, le-ltb (length (f.print a)) (length (f.print a)) (omega arith))

  whole_versioned : (version : A → ℕ) → Narrow (version a) → versioned version (ended (f.print a) (f.read (f.print a) 0)) ≡ Ok (a, length (f.print a))
  whole_versioned version n = rw (whole_ended, le-leb (version a) 0xFFFFFFFF (omega arith))

-- two fields and a text to the end
to_end_lem : {A B : Type 0} {f : Format A} {g : Format B} {P : A → Type 0} {Q : B → Type 0} → Back f P → Back g Q
    → (a : A) (b : B) (x : List ℕ) → P a → Q b → utf8 x ≡ true
    → (f ⊗ g ⊗ to_end).read (f.print a ++ (g.print b ++ x)) 0 ≡ Ok ((a, (b, x)), length (f.print a ++ (g.print b ++ x)))
to_end_lem {f = f} {g = g} F G a b x p q u =
    let y : List ℕ = f.print a in
    let z : List ℕ = g.print b in
    let e₁ : f.read (y ++ (z ++ x)) 0 ≡ Ok (a, length y) = F.back a p [] (z ++ x) ∙ ap (got a) (zero-add (length y)) in
    let e₂ : g.read (y ++ (z ++ x)) (length y) ≡ Ok (b, length y + length z) = G.back b q y x in
    let e₃ : drop (length y + length z) (y ++ (z ++ x)) ≡ x = rw (drop-append-add, drop-append_seam) in
    rw (e₁, e₂, e₃, u)

page_read : (m : Page) → FineSaid 0 (said_page m) → read_page (page.print m) ≡ Ok (m, length (page.print m))
unfolding FineSaid read_page
page_read m h =
    ap (λ (g : Got (ℕ × (List ℕ × List ℕ))). then g (λ c q. Ok (to_page c, q)))
    (to_end_lem (fixed_back 8) raw_back m.limit m.cursor m.query h.0 h.1 h.2.1)

-- how deep descriptors may nest is no matter of printing
predicates_same : (limit : ℕ) (l : List Predicate) → print_all (predicate 0) l ≡ print_all (predicate limit) l
unfolding print_all
predicates_same limit [] = refl
predicates_same limit (p ∷ l) = rw (value_same p.value, predicates_same limit l)
  where
    value_same : (v : Optional (Tree (List ℕ))) → print_optional (descriptor 0) v ≡ print_optional (descriptor limit) v
    value_same absent = refl
    value_same (present t) = refl

-- a payload that is not too long is read as its entry says
read_at : (max limit entry : ℕ) (s : List ℕ) (g : Got Said) → length s ≤ max → read_entry limit entry s ≡ g → read_message max limit entry s ≡ g
unfolding read_message
read_at max limit entry s g h e = rw (le-ltb max (length s) h) (go (ltb 0 entry) (leb entry 12))
  where
    go : (a b : Bool) → pick (a && b && false) (Err (BlockTooLarge (length s) max)) (read_entry limit entry s) ≡ g
    go true true = e
    go true false = e
    go false b = e

-- What is printed of a message that is fine is read as that message, by the number that its frame tells.
pub read_printed : (max limit : ℕ) (m : Said) → FineSaid limit m → length (print_said m) ≤ max
    → read_message max limit (entry_of m) (print_said m) ≡ Ok (m, length (print_said m))
unfolding FineSaid read_entry print_said entry_of read_startup read_ready read_error read_complete read_ids read_types read_control read_reply read_profile read_page read_fetch read_listing
read_printed max limit (said_startup m) h l =
    read_at max limit 1 _ _ l (ap (saying said_startup) (whole_versioned startup_back m h (λ m. m.version) h.0))
read_printed max limit (said_ready m) h l =
    read_at max limit 2 _ _ l (ap (saying said_ready) (whole_versioned ready_back m h (λ m. m.version) h.0))
read_printed max limit (said_error m) h l = read_at max limit 3 _ _ l (ap (saying said_error) (whole error_back m h))
read_printed max limit (said_complete m) h l = read_at max limit 4 _ _ l (ap (saying said_complete) (whole_ended complete_back m h))
read_printed max limit (said_ids m) h l = read_at max limit 5 _ _ l (ap (saying said_ids) (whole (counted_back varint_back) m h))
read_printed max limit (said_types m) h l =
    read_at max limit 6 _ _ l (rw (predicates_same limit m) (ap (saying said_types) (whole (counted_back (predicate_back limit)) m h)))
read_printed max limit (said_control m) h l = read_at max limit 7 _ _ l (ap (saying said_control) (whole_ended control_back m h))
read_printed max limit (said_reply m) h l = read_at max limit 8 _ _ l (ap (saying said_reply) (whole_ended reply_back m h))
read_printed max limit (said_profile m) h l = read_at max limit 9 _ _ l (ap (saying said_profile) (whole_ended profile_back m h))
read_printed max limit (said_page m) h l = read_at max limit 10 _ _ l (ap (saying said_page) (page_read m h))
read_printed max limit (said_fetch m) h l = read_at max limit 11 _ _ l (ap (saying said_fetch) (whole_ended fetch_back m h))
read_printed max limit (said_listing m) h l = read_at max limit 12 _ _ l (ap (saying said_listing) (whole_ended listing_back m h))
read_printed max limit (opaque s) h l = read_at max limit 0 s _ l refl
