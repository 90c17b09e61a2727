-- What was laid out in lent memory is taken out of it again, whatever follows it there.
use mathlib.Core.Bool.{true}
use mathlib.Core.Path.{◌≡◌, refl, ◌∙◌, ap}
use mathlib.Core.List.{List, [], ◌∷◌, ◌++◌}
use Prim.Native.Nat.{ℕ, ◌+◌, ◌^◌, ◌≤◌, ◌<◌}
use native.Mathlib.Nat.{zero-add}
use native.Mathlib.Omega.{arith}
use lib.ListN.{length}
use borrow.Author.Tests.{le-ltb, le-leb}
use Rattle.varint.specs.Formats.{varint, fixed}
use Rattle.varint.specs.Gathering.{held}
use Rattle.varint.specs.RoundTrips.{Bytes, All}
use Rattle.varint.specs.Utf8.{utf8}
use Rattle.varint.specs.declared.error.Refusal.TheVariants.{BlockTooLarge}
use Rattle.varint.proofs.FormatGives.{Gives, any_gives, name_gives, pair_gives, named_gives, counted_gives}
use Rattle.protocol.specs.Complete.{lay_complete}
use Rattle.protocol.specs.Control.{Control, lay_control, held_control}
use Rattle.protocol.specs.Encoding.{held_as, held_said}
use Rattle.protocol.specs.Error.{lay_error, held_error}
use Rattle.protocol.specs.Fetch.{Fetch, to_fetch, from_fetch, max_fetch, digest, pair, fetch, lay_fetch, held_fetch}
use Rattle.protocol.specs.Fields.{mode, raw, narrow}
use Rattle.protocol.specs.Ids.{lay_id, lay_ids, held_ids}
use Rattle.protocol.specs.Laying.{span_of}
use Rattle.protocol.specs.Listing.{lay_listing}
use Rattle.protocol.specs.Page.{Page, to_page, from_page, page, lay_page, held_page}
use Rattle.protocol.specs.Pieces.{Piece, words, ◌⊕◌, many}
use Rattle.protocol.specs.Profile.{Step, lay_step, lay_profile, step_numbers, held_profile}
use Rattle.protocol.specs.Ready.{lay_ready}
use Rattle.protocol.specs.Reply.{Reply, created, finished, removed, lay_reply, held_reply}
use Rattle.protocol.specs.Said.{Said, said_startup, said_ready, said_error, said_complete, said_ids, said_types, said_control, said_reply, said_profile, said_page, said_fetch, said_listing, opaque, lay}
use Rattle.protocol.specs.Startup.{Startup, to_claim, from_claim, claim, to_startup, from_startup, startup, lay_claim, lay_startup, held_startup}
use Rattle.protocol.specs.Types.{Predicate, lay_predicate, lay_types, type_numbers, held_types}
use Rattle.protocol_laws.specs.Fine.{FineReply, FineSaid}
use Rattle.protocol_laws.proofs.FieldsForth.{counted_to_gives, to_end_gives}
use Rattle.protocol_laws.proofs.HeldRows.{bit_small, raw_held_lem, text_held_lem, name_held_lem, rows_held, rows_good, rows_enough, id_rowed, claim_rowed, step_rowed, SoundPredicate, predicate_numbers, predicate_rowed, types_laid_lem}
use Rattle.protocol_laws.proofs.MessagesForth.{ReadAs, as_startup, as_ready, as_complete, as_page, as_fetch, as_listing}
use Rattle.protocol_laws.proofs.Standing.{At, at_first, at_rest, at_cell, at_front, in_front, in_first, in_rest}

abbrev SoundReply : Reply → Type 0
SoundReply (created i) = utf8 i ≡ true
SoundReply (finished f) = Unit
SoundReply removed = Unit

-- What makes a message one that can be taken out again: its texts are UTF-8, a fetch asks for no more than may be, and types have ids of 32 bits
-- and descriptors of at most `limit` levels.
unfoldable pub Sound : ℕ → Said → Type 0
Sound limit (said_startup m) = (utf8 m.database ≡ true) × All (λ c. utf8 c.name ≡ true) m.claims
Sound limit (said_ready m) = Unit
Sound limit (said_error m) = utf8 m.text ≡ true
Sound limit (said_complete m) = Unit
Sound limit (said_ids l) = Unit
Sound limit (said_types l) = All (SoundPredicate limit) l
Sound limit (said_control m) = (utf8 m.database ≡ true) × (utf8 m.schema ≡ true)
Sound limit (said_reply m) = SoundReply m
Sound limit (said_profile l) = All (λ m. utf8 m.label ≡ true) l
Sound limit (said_page m) = utf8 m.query ≡ true
Sound limit (said_fetch m) = length m.ids ≤ max_fetch
Sound limit (said_listing m) = Unit
Sound limit (opaque s) = Unit

all_any : {A : Type 0} (l : List A) → All (λ _. Unit) l
all_any [] = tt
all_any (a ∷ l) = (tt, all_any l)

startup_held : (m : Startup) → utf8 m.database ≡ true → All (λ c. utf8 c.name ≡ true) m.claims → (X Y Z : List ℕ)
    → held_startup m.version (span_of 0 m.database) m.mode m.fingerprint (length m.claims)
    ((lay_startup m).piece.text ++ X) ((lay_startup m).piece.rows 0 0 ++ Y)
    ≡ held m
unfolding held_startup lay_startup
startup_held m u ok X Y Z =
    let D : Piece = words m.database in
    let C : Piece = many lay_claim m.claims in
    let t : ℕ = 0 + length m.database in
    let i = in_front (D ⊕ C) X Y Z in
    let d = name_held_lem (in_first D C i).text u in
    let l = rows_held claim_rowed _ _ _ m.claims ok _ _ _ (in_rest D C i 0 refl refl) in
    rows_enough claim_rowed m.claims t 0 Y _ ∙ rw (d, l)

ids_held : (l X Y Z : List ℕ) → held_ids (length l) ((many lay_id l).rows 0 0 ++ Y) ≡ held l
unfolding held_ids
ids_held l X Y Z =
    rows_enough id_rowed l 0 0 Y _
    ∙ rows_held id_rowed ((many lay_id l).text ++ X) ((many lay_id l).rows 0 0 ++ Y) ((many lay_id l).nodes 0 0 ++ Z) l (all_any l) 0 0 0
    (in_front (many lay_id l) X Y Z)

fetch_held : (m : Fetch) → length m.ids ≤ max_fetch → (X Y Z : List ℕ) → held_fetch m.digest (length m.ids) ((lay_fetch m).piece.rows 0 0 ++ Y) ≡ held m
unfolding held_fetch lay_fetch
fetch_held m h X Y Z =
    let l = rows_held id_rowed _ _ _ m.ids (all_any m.ids) 0 0 0 (in_front (many lay_id m.ids) X Y Z) in
    rows_enough id_rowed m.ids 0 0 Y _ ∙ rw (le-ltb max_fetch (length m.ids) h, l)

profile_held : (l : List Step) → All (λ m. utf8 m.label ≡ true) l → (X Y Z : List ℕ)
    → held_profile (length l) ((many lay_step l).text ++ X) ((many lay_step l).rows 0 0 ++ Y) ≡ held l
unfolding held_profile
profile_held l ok X Y Z =
    let i = in_front (many lay_step l) X Y Z in
    let tx : List ℕ = (many lay_step l).text ++ X in
    let rs : List ℕ = (many lay_step l).rows 0 0 ++ Y in
    let nd : List ℕ = (many lay_step l).nodes 0 0 ++ Z in
    let g = rows_good step_rowed tx rs nd (step_numbers rs) (λ m u t r n h. rw (at_cell h.rows 3) (bit_small m.full_scan)) l ok 0 0 0 i in
    rows_enough step_rowed l 0 0 Y _ ∙ rw (g, rows_held step_rowed tx rs nd l ok 0 0 0 i)

types_held : (limit : ℕ) (l : List Predicate) → All (SoundPredicate limit) l → (X Y Z : List ℕ)
    → held_types limit (length l) ((many lay_predicate l).text ++ X) ((many lay_predicate l).rows 0 0 ++ Y) ((many lay_predicate l).nodes 0 0 ++ Z) ≡ held l
unfolding held_types
types_held limit l ok X Y Z =
    let i = in_front (many lay_predicate l) X Y Z in
    let tx : List ℕ = (many lay_predicate l).text ++ X in
    let rs : List ℕ = (many lay_predicate l).rows 0 0 ++ Y in
    let nd : List ℕ = (many lay_predicate l).nodes 0 0 ++ Z in
    let R = predicate_rowed limit in
    let g = rows_good R tx rs nd (type_numbers rs) (λ p o. predicate_numbers limit p o tx rs nd) l ok 0 0 0 i in
    rows_enough R l 0 0 Y _ ∙ rw (g, types_laid_lem limit tx rs nd l ok 0 0 0 i, rows_held R tx rs nd l ok 0 0 0 i)

-- the second of two texts
behind : (x y X : List ℕ) → At y ((x ++ y) ++ X) (length x)
behind x y X = rw (zero-add (length x)) at (at_rest x y (at_front (x ++ y) X))

control_held : (m : Control) → utf8 m.database ≡ true → utf8 m.schema ≡ true → (X : List ℕ)
    → held_control m.op (span_of 0 m.database) m.allow_zero_facts (span_of (length m.database) m.schema) ((lay_control m).piece.text ++ X) ≡ held m
unfolding held_control lay_control
control_held m u v X =
    let D : List ℕ = m.database in
    rw (name_held_lem (at_first D m.schema (at_front (D ++ m.schema) X)) u, text_held_lem (behind D m.schema X) v)

page_held : (m : Page) → utf8 m.query ≡ true → (X : List ℕ)
    → held_page m.limit (span_of 0 m.cursor) (span_of (length m.cursor) m.query) ((lay_page m).piece.text ++ X) ≡ held m
unfolding held_page lay_page
page_held m u X =
    let C : List ℕ = m.cursor in
    rw (raw_held_lem (at_first C m.query (at_front (C ++ m.query) X)), text_held_lem (behind C m.query X) u)

-- A message that was laid out at the start of the lent memory is what that memory says.
pub held_laid : (limit : ℕ) (m : Said) → Sound limit m → (X Y Z : List ℕ)
    → held_said limit (lay m).message ((lay m).piece.text ++ X) ((lay m).piece.rows 0 0 ++ Y) ((lay m).piece.nodes 0 0 ++ Z) ≡ held m
unfolding held_said Sound lay lay_startup lay_ready lay_error lay_complete lay_ids lay_types lay_control lay_reply lay_profile lay_page lay_fetch lay_listing held_error held_reply
held_laid limit (said_startup m) o X Y Z = ap (held_as said_startup) (startup_held m o.0 o.1 X Y Z)
held_laid limit (said_ready m) o X Y Z = refl
held_laid limit (said_error m) o X Y Z = rw (text_held_lem (at_front m.text X) o)
held_laid limit (said_complete m) o X Y Z = refl
held_laid limit (said_ids l) o X Y Z = ap (held_as said_ids) (ids_held l X Y Z)
held_laid limit (said_types l) o X Y Z = ap (held_as said_types) (types_held limit l o X Y Z)
held_laid limit (said_control m) o X Y Z = ap (held_as said_control) (control_held m o.0 o.1 X)
held_laid limit (said_reply (created i)) o X Y Z = rw (name_held_lem (at_front i X) o)
held_laid limit (said_reply (finished f)) o X Y Z = refl
held_laid limit (said_reply removed) o X Y Z = refl
held_laid limit (said_profile l) o X Y Z = ap (held_as said_profile) (profile_held l o X Y Z)
held_laid limit (said_page m) o X Y Z = ap (held_as said_page) (page_held m o X)
held_laid limit (said_fetch m) o X Y Z = ap (held_as said_fetch) (fetch_held m o X Y Z)
held_laid limit (said_listing m) o X Y Z = refl
held_laid limit (opaque s) o X Y Z = rw (raw_held_lem (at_front s X))

-- What is fine is sound

all_weaker : {A : Type 0} {P Q : A → Type 0} → ((a : A) → P a → Q a) → (l : List A) → All P l → All Q l
all_weaker f [] h = tt
all_weaker f (a ∷ l) h = (f a h.0, all_weaker f l h.1)

reply_sound : (m : Reply) → FineReply m → SoundReply m
reply_sound (created i) f = f.1
reply_sound (finished m) f = tt
reply_sound removed f = tt

narrow_id : (i : ℕ) → i < 2 ^ 32 → narrow i ≡ true
narrow_id i h = let k : i ≤ 0xFFFFFFFF = omega arith in le-leb i 0xFFFFFFFF k

pub fine_sound : (limit : ℕ) (m : Said) → FineSaid limit m → Sound limit m
unfolding FineSaid Sound
fine_sound limit (said_startup m) f = (f.1.1, all_weaker (λ c h. h.0.1) m.claims f.3.1)
fine_sound limit (said_ready m) f = tt
fine_sound limit (said_error m) f = f.1
fine_sound limit (said_complete m) f = tt
fine_sound limit (said_ids l) f = tt
fine_sound limit (said_types l) f = all_weaker (λ p h. (narrow_id p.id h.0, h.1.1, h.2, h.3)) l f.1
fine_sound limit (said_control m) f = (f.0.1, f.1.1)
fine_sound limit (said_reply m) f = reply_sound m f
fine_sound limit (said_profile l) f = all_weaker (λ m h. h.0.1) l f.1
fine_sound limit (said_page m) f = f.2.1
fine_sound limit (said_fetch m) f = f.2
fine_sound limit (said_listing m) f = tt
fine_sound limit (opaque s) f = tt

-- What is read is sound

claim_gives : Gives claim (λ c. utf8 c.name ≡ true)
claim_gives = named_gives to_claim from_claim (λ c p. p.0.1) (pair_gives name_gives (any_gives varint))

startup_gives : Gives startup (λ m. (utf8 m.database ≡ true) × All (λ c. utf8 c.name ≡ true) m.claims)
startup_gives =
    named_gives to_startup from_startup (λ c p. (p.1.0.1, p.1.1.1.1.1))
    (pair_gives (any_gives varint)
    (pair_gives name_gives (pair_gives (any_gives mode) (pair_gives (any_gives varint) (counted_gives claim_gives)))))

page_gives : Gives page (λ m. utf8 m.query ≡ true)
page_gives = named_gives to_page from_page (λ c p. p.1.1) (pair_gives (any_gives (fixed 8)) (pair_gives (any_gives raw) to_end_gives))

fetch_gives : Gives fetch (λ m. length m.ids ≤ max_fetch)
fetch_gives = named_gives to_fetch from_fetch (λ c p. p.1) (pair_gives (any_gives digest) (counted_to_gives pair max_fetch BlockTooLarge))

pub read_sound : (limit : ℕ) {s : List ℕ} {m : Said} → ReadAs s m → Bytes s → Sound limit m
unfolding Sound
read_sound limit {s} (as_startup m w) B = startup_gives.gives s 0 m w.next B w.read
read_sound limit {s} (as_ready m w) B = tt
read_sound limit {s} (as_complete m w) B = tt
read_sound limit {s} (as_page m w) B = page_gives.gives s 0 m w.next B w.read
read_sound limit {s} (as_fetch m w) B = fetch_gives.gives s 0 m w.next B w.read
read_sound limit {s} (as_listing m w) B = tt
