-- A payload that is read is the bytes of what it says, for the messages that have one encoding.
use mathlib.Core.Bool.{true, ◌&&◌}
use mathlib.Core.Path.{◌≡◌, refl, sym, ◌∙◌}
use mathlib.Core.List.{List, append-nil}
use Prim.Native.Nat.{ℕ, ◌≤◌}
use native.Mathlib.Omega.{arith}
use lib.Dec.{ltb, leb}
use lib.ListN.{length, drop_of_length-le}
use borrow.Author.Tests.{ltb-false}
use Rattle.varint.specs.Choice.{pick}
use Rattle.varint.specs.Got.{Got}
use Rattle.varint.specs.Formats.{Format, fixed, ◌⊗◌}
use Rattle.varint.specs.RoundTrips.{Bytes, Forth}
use Rattle.varint.specs.declared.error.Refusal.TheVariants.{BlockTooLarge, BadListingPredicate}
use Rattle.varint.proofs.FormatForth.{varint_forth, fixed_forth, name_forth, pair_forth, named_forth, counted_forth}
use Rattle.varint.proofs.FormatParts.{went, pair_went, named_went}
use Rattle.varint.proofs.Gots.{got_of}
use Rattle.protocol.specs.Complete.{Complete, to_complete, from_complete, complete, read_complete}
use Rattle.protocol.specs.Fetch.{Fetch, to_fetch, from_fetch, max_fetch, fetch, read_fetch}
use Rattle.protocol.specs.Fields.{narrow, raw, to_end}
use Rattle.protocol.specs.Listing.{Listing, to_listing, from_listing, listing, read_listing}
use Rattle.protocol.specs.Page.{Page, to_page, from_page, page, read_page}
use Rattle.protocol.specs.Ready.{Ready, to_ready, from_ready, ready, read_ready}
use Rattle.protocol.specs.Said.{Said, said_startup, said_ready, said_complete, said_page, said_fetch, said_listing, saying, read_entry, read_message, print_said}
use Rattle.protocol.specs.Startup.{Startup, to_claim, from_claim, claim, to_startup, from_startup, startup, read_startup}
use Rattle.protocol_laws.specs.Canonical as Canon
use Rattle.protocol_laws.specs.Canonical.{Canonical}
use Rattle.protocol.proofs.FieldEnds.{spared, to_end_got}
use Rattle.protocol.proofs.WholeLaws.{Whole, ended_got, versioned_got}
use Rattle.protocol_laws.proofs.FieldsForth.{provided_forth, mode_forth, counted_to_forth, raw_forth, digest_forth, fact_forth, to_end_forth}
use Rattle.std.specs.Prelude.{Ok, Err}

-- The formats

claim_forth : Forth claim
claim_forth = named_forth to_claim from_claim (λ c. refl) (pair_forth name_forth varint_forth)

startup_forth : Forth startup
startup_forth =
    named_forth to_startup from_startup (λ c. refl)
    (pair_forth varint_forth (pair_forth name_forth (pair_forth mode_forth (pair_forth varint_forth (counted_forth claim_forth)))))

ready_forth : Forth ready
ready_forth = named_forth to_ready from_ready (λ c. refl) (pair_forth varint_forth (pair_forth varint_forth varint_forth))

complete_forth : Forth complete
complete_forth = named_forth to_complete from_complete (λ c. refl) (pair_forth varint_forth varint_forth)

page_forth : Forth page
page_forth = named_forth to_page from_page (λ c. refl) (pair_forth (fixed_forth 8) (pair_forth raw_forth to_end_forth))

fetch_forth : Forth fetch
fetch_forth = named_forth to_fetch from_fetch (λ c. refl) (pair_forth digest_forth (counted_to_forth (λ _. max_fetch) BlockTooLarge fact_forth))

listing_forth : Forth listing
listing_forth =
    named_forth to_listing from_listing (λ c. refl) (pair_forth (provided_forth narrow BadListingPredicate varint_forth) varint_forth)

-- Whole payloads

-- so s is how a is printed
whole_print : {A : Type 0} {f : Format A} {s : List ℕ} {a : A} → Forth f → Whole f s a → Bytes s → f.print a ≡ s
whole_print {f = f} {s = s} {a = a} F w B =
    let i = F.forth s 0 a w.next B (omega arith) w.read in
    sym (i.bytes ∙ rw (drop_of_length-le s w.end) (append-nil (f.print a)))

-- a query takes the rest
page_got : (s : List ℕ) (a : Page) (q : ℕ) → page.read s 0 ≡ Ok (a, q) → Whole page s a
page_got s a q e =
    let x = named_went to_page from_page (fixed 8 ⊗ raw ⊗ to_end) s 0 a q e in
    let y = pair_went (fixed 8) (raw ⊗ to_end) s 0 x.value q x.read in
    let z = pair_went raw to_end s y.next x.value.1 q y.second in
    let w = (to_end_got s z.next x.value.1.1 q z.second).1 in
    record { next = q; read = e; end = omega arith }

-- what a payload says, where it has one encoding
pub data ReadAs (s : List ℕ) : Said → Type 0 where
  as_startup : (m : Startup) → Whole startup s m → ReadAs s (said_startup m)
  as_ready : (m : Ready) → Whole ready s m → ReadAs s (said_ready m)
  as_complete : (m : Complete) → Whole complete s m → ReadAs s (said_complete m)
  as_page : (m : Page) → Whole page s m → ReadAs s (said_page m)
  as_fetch : (m : Fetch) → Whole fetch s m → ReadAs s (said_fetch m)
  as_listing : (m : Listing) → Whole listing s m → ReadAs s (said_listing m)

read_as : {A : Type 0} (max : ℕ) (to : A → Said) (x : Got A) (s : List ℕ) (m : Said) (q : ℕ) → ((a : A) → x ≡ Ok (a, q) → ReadAs s (to a))
    → pick (ltb max (length s)) (Err (BlockTooLarge (length s) max)) (saying to x) ≡ Ok (m, q) → ReadAs s m
read_as max to x s m q k e =
    let y = went x _ m q (spared (ltb max (length s)) _ _ e).1 in
    let w = got_of y.rest in
    rw (← w.0) (k y.value (y.first ∙ rw w.1 refl))

pub read_whole : (max limit entry : ℕ) (s : List ℕ) (m : Said) (q : ℕ) → Canonical entry → read_message max limit entry s ≡ Ok (m, q) → ReadAs s m
unfolding read_message read_entry read_startup read_ready read_complete read_page read_fetch read_listing
read_whole max limit entry s m q Canon.startup =
    read_as max said_startup _ s m q (λ a r. as_startup a (versioned_got startup (λ c. c.version) s a q r))
read_whole max limit entry s m q Canon.ready = read_as max said_ready _ s m q (λ a r. as_ready a (versioned_got ready (λ c. c.version) s a q r))
read_whole max limit entry s m q Canon.complete = read_as max said_complete _ s m q (λ a r. as_complete a (ended_got complete s a q r))
read_whole max limit entry s m q Canon.page = read_as max said_page _ s m q (λ a r. as_page a (page_got s a q r))
read_whole max limit entry s m q Canon.fetch = read_as max said_fetch _ s m q (λ a r. as_fetch a (ended_got fetch s a q r))
read_whole max limit entry s m q Canon.listing = read_as max said_listing _ s m q (λ a r. as_listing a (ended_got listing s a q r))

-- these are messages, so none is longer than may be
canonical_known : {entry : ℕ} → Canonical entry → (ltb 0 entry && leb entry 12) ≡ true
canonical_known Canon.startup = refl
canonical_known Canon.ready = refl
canonical_known Canon.complete = refl
canonical_known Canon.page = refl
canonical_known Canon.fetch = refl
canonical_known Canon.listing = refl

pub read_short : (max limit entry : ℕ) (s : List ℕ) (m : Said) (q : ℕ) → Canonical entry → read_message max limit entry s ≡ Ok (m, q)
    → length s ≤ max
unfolding read_message
read_short max limit entry s m q c e =
    let short = (spared (ltb 0 entry && leb entry 12 && ltb max (length s)) _ _ e).0 in
    ltb-false max (length s) (rw (canonical_known c) at short)

pub print_as : {s : List ℕ} {m : Said} → ReadAs s m → Bytes s → print_said m ≡ s
unfolding print_said
print_as (as_startup m w) B = whole_print startup_forth w B
print_as (as_ready m w) B = whole_print ready_forth w B
print_as (as_complete m w) B = whole_print complete_forth w B
print_as (as_page m w) B = whole_print page_forth w B
print_as (as_fetch m w) B = whole_print fetch_forth w B
print_as (as_listing m w) B = whole_print listing_forth w B

-- A payload of one of these messages that is read is how the message is printed: no other bytes say the same.
pub print_read : (max limit entry : ℕ) (s : List ℕ) (m : Said) (q : ℕ) → read_message max limit entry s ≡ Ok (m, q) → Canonical entry → Bytes s
    → print_said m ≡ s
print_read max limit entry s m q e c B = print_as (read_whole max limit entry s m q c e) B
