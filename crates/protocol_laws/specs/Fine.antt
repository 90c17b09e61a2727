-- Which messages can be printed and read back: numbers fit their fields, texts are UTF-8, counts and descriptors are within their limits.
use Rattle.std.specs.Prelude.{true, refl, List, [], ◌∷◌, ℕ, ◌^◌, ◌≤◌, ◌<◌, length, get_or, Some, None, Option}
use Rattle.std.proofs.Common.{arith, lit<}
use Rattle.varint.specs.RoundTrips.{TextOk, ListOk}
use Rattle.varint.specs.Utf8.{utf8, scan, lead}
use Rattle.desc.specs.Trees.{leaf}
use Rattle.desc.specs.WellFormed.{Fine, fact}
use Rattle.protocol.specs.Fetch.{max_fetch}
use Rattle.protocol.specs.Fields.{Optional, absent, present}
use Rattle.protocol.specs.Profile.{Step}
use Rattle.protocol.specs.Reply.{Reply, created, finished, removed}
use Rattle.protocol.specs.Said.{Said, said_startup, said_ready, said_error, said_complete, said_ids, said_types, said_control, said_reply, said_profile, said_page, said_fetch, said_listing, opaque}
use Rattle.protocol.specs.Startup.{Claim}
use Rattle.protocol.specs.Types.{Predicate}
use Rattle.protocol.specs.declared.message.ControlReply.{ControlReply}
use Rattle.protocol.specs.declared.message.ControlReply.TheVariants as R
use Rattle.protocol.specs.declared.message.Message.{Message}
use Rattle.protocol.specs.declared.message.Message.TheVariants as Msg

-- a number of 64 bits
abbrev pub Wide : ℕ → Type 0
Wide n = n < 2 ^ 64

-- a number of 32 bits
abbrev pub Narrow : ℕ → Type 0
Narrow n = n < 2 ^ 32

-- what may be there is P if it is there
abbrev pub IfPresent : {A : Type 0} → (A → Type 0) → Optional A → Type 0
IfPresent P absent = Unit
IfPresent P (present a) = P a

abbrev pub FineDigest : Option ℕ → Type 0
FineDigest None = Unit
FineDigest (Some d) = Wide d

abbrev pub FineReply : Reply → Type 0
FineReply (created i) = TextOk i
FineReply (finished f) = Wide f.fingerprint × Wide f.facts × Wide f.bytes
FineReply removed = Unit

abbrev pub FineClaim : Claim → Type 0
FineClaim c = TextOk c.name × Wide c.fingerprint

abbrev pub FinePredicate : ℕ → Predicate → Type 0
FinePredicate limit p = Narrow p.id × TextOk p.name × Fine TextOk limit p.key × IfPresent (Fine TextOk limit) p.value

abbrev pub FineStep : Step → Type 0
FineStep m = TextOk m.label × Wide m.examined

-- descriptors nest at most `limit` deep
unfoldable pub FineSaid : ℕ → Said → Type 0
FineSaid limit (said_startup m) = Narrow m.version × TextOk m.database × Wide m.fingerprint × ListOk FineClaim m.claims
FineSaid limit (said_ready m) = Narrow m.version × Wide m.fingerprint × Wide m.predicates
FineSaid limit (said_error m) = TextOk m.text
FineSaid limit (said_complete m) = Wide m.first × Wide m.second
FineSaid limit (said_ids l) = ListOk Wide l
FineSaid limit (said_types l) = ListOk (FinePredicate limit) l
FineSaid limit (said_control m) = TextOk m.database × TextOk m.schema
FineSaid limit (said_reply m) = FineReply m
FineSaid limit (said_profile l) = ListOk FineStep l
FineSaid limit (said_page m) = Wide m.limit × Narrow (length m.cursor) × TextOk m.query
FineSaid limit (said_fetch m) = FineDigest m.digest × ListOk Wide m.ids × (length m.ids ≤ max_fetch)
FineSaid limit (said_listing m) = Narrow m.predicate × Wide m.digest
FineSaid limit (opaque s) = Unit

-- What the types of a message's fields say of its numbers. A place of the text may be any two numbers: whether the text reaches so far is tested.
abbrev pub TypedReply : ControlReply → Type 0
TypedReply (R.Created instance) = Unit
TypedReply (R.Finished fingerprint facts bytes complete) = Wide fingerprint × Wide facts × Wide bytes
TypedReply R.Removed = Unit

unfoldable pub Typed : Message → Type 0
Typed (Msg.Startup version database mode fingerprint count) = Narrow version × Wide fingerprint × Wide count
Typed (Msg.Ready version fingerprint predicates) = Narrow version × Wide fingerprint × Wide predicates
Typed (Msg.Error code text) = Unit
Typed (Msg.Complete first second) = Wide first × Wide second
Typed (Msg.Ids count) = Wide count
Typed (Msg.Types count) = Wide count
Typed (Msg.Control op database allow schema) = Unit
Typed (Msg.Reply reply) = TypedReply reply
Typed (Msg.Profile count) = Wide count
Typed (Msg.Page limit cursor query) = Wide limit
Typed (Msg.Fetch digest count) = FineDigest digest × Wide count
Typed (Msg.ListingDigest predicate digest) = Narrow predicate × Wide digest
Typed (Msg.Opaque payload) = Unit

-- rows of numbers of 64 bits
abbrev pub Numbers : List ℕ → Type 0
Numbers rs = (i : ℕ) → Wide (get_or rs i 0)

example_page : FineSaid 64 (said_page (record { limit = 10; cursor = 0xFF ∷ []; query = 0x61 ∷ [] }))
unfolding FineSaid utf8 scan lead
example_page = (lit< tt, lit< tt, (lit< tt, refl))

-- a predicate whose key is a fact, with no value, where one level may nest
example_types : FineSaid 1 (said_types (record { id = 7; name = 0x61 ∷ []; virtual = true; key = leaf 2 99; value = absent } ∷ []))
unfolding FineSaid Fine utf8 scan lead
example_types = (lit< tt, ((lit< tt, (lit< tt, refl), fact (lit< tt), tt), tt))

-- a version of 33 bits is written, and refused by the reader
example_wide : FineSaid 64 (said_ready (record { version = 4294967296; fingerprint = 0; predicates = 0 })) → ⊥
unfolding FineSaid
example_wide h = omega arith
