-- What is said by a message of each number, read from a payload, printed, and laid out for lent memory.
use Rattle.std.specs.Prelude.{◌&&◌, List, ℕ, ltb, leb, eqb, length, Ok, Err}
use Rattle.varint.specs.Choice.{pick}
use Rattle.varint.specs.Got.{Got, then}
use Rattle.varint.specs.Formats.{counted}
use Rattle.varint.specs.declared.error.Refusal.TheVariants.{BlockTooLarge}
use Rattle.protocol.specs.Laying.{Laid, span_of}
use Rattle.protocol.specs.Pieces.{words}
use Rattle.protocol.specs.Startup.{Startup, startup, read_startup, lay_startup}
use Rattle.protocol.specs.Ready.{Ready, ready, read_ready, lay_ready}
use Rattle.protocol.specs.Error.{Error, error, read_error, lay_error}
use Rattle.protocol.specs.Complete.{Complete, complete, read_complete, lay_complete}
use Rattle.protocol.specs.Ids.{ids, read_ids, lay_ids}
use Rattle.protocol.specs.Types.{Predicate, predicate, read_types, lay_types}
use Rattle.protocol.specs.Control.{Control, control, read_control, lay_control}
use Rattle.protocol.specs.Reply.{Reply, print_reply, read_reply, lay_reply}
use Rattle.protocol.specs.Profile.{Step, profile, read_profile, lay_profile}
use Rattle.protocol.specs.Page.{Page, page, read_page, lay_page}
use Rattle.protocol.specs.Fetch.{Fetch, fetch, read_fetch, lay_fetch}
use Rattle.protocol.specs.Listing.{Listing, listing, read_listing, lay_listing}
use Rattle.protocol.specs.declared.message.Message.TheVariants as Msg

pub data Said : Type 0 where
  said_startup : Startup → Said
  said_ready : Ready → Said
  said_error : Error → Said
  said_complete : Complete → Said
  said_ids : List ℕ → Said
  said_types : List Predicate → Said
  said_control : Control → Said
  said_reply : Reply → Said
  said_profile : List Step → Said
  said_page : Page → Said
  said_fetch : Fetch → Said
  said_listing : Listing → Said
  opaque : List ℕ → Said

abbrev pub saying : {A : Type 0} → (A → Said) → Got A → Got Said
saying to g = then g (λ a q. Ok (to a, q))

-- Message `entry` of a payload. "An entry 1 to 12 names a message; any other is opaque: its payload, not checked for UTF-8, is the one text".
unfoldable pub read_entry : ℕ → ℕ → List ℕ → Got Said
read_entry limit entry s =
    pick (eqb entry 1) (saying said_startup (read_startup s))
    (pick (eqb entry 2) (saying said_ready (read_ready s))
    (pick (eqb entry 3) (saying said_error (read_error s))
    (pick (eqb entry 4) (saying said_complete (read_complete s))
    (pick (eqb entry 5) (saying said_ids (read_ids s))
    (pick (eqb entry 6) (saying said_types (read_types limit s))
    (pick (eqb entry 7) (saying said_control (read_control s))
    (pick (eqb entry 8) (saying said_reply (read_reply s))
    (pick (eqb entry 9) (saying said_profile (read_profile s))
    (pick (eqb entry 10) (saying said_page (read_page s))
    (pick (eqb entry 11) (saying said_fetch (read_fetch s))
    (pick (eqb entry 12) (saying said_listing (read_listing s))
    (Ok (opaque s, length s)))))))))))))

-- "Every message decoder: first 12 for a payload over 67,108,864 bytes"; an opaque payload has no such refusal
unfoldable pub read_message : (max limit : ℕ) → ℕ → List ℕ → Got Said
read_message max limit entry s =
    pick (ltb 0 entry && leb entry 12 && ltb max (length s)) (Err (BlockTooLarge (length s) max)) (read_entry limit entry s)

-- the bytes; how deep descriptors may nest is no matter of printing
unfoldable pub print_said : Said → List ℕ
print_said (said_startup m) = startup.print m
print_said (said_ready m) = ready.print m
print_said (said_error m) = error.print m
print_said (said_complete m) = complete.print m
print_said (said_ids m) = ids.print m
print_said (said_types m) = (counted (predicate 0)).print m
print_said (said_control m) = control.print m
print_said (said_reply m) = print_reply m
print_said (said_profile m) = profile.print m
print_said (said_page m) = page.print m
print_said (said_fetch m) = fetch.print m
print_said (said_listing m) = listing.print m
print_said (opaque s) = s

unfoldable pub lay : Said → Laid
lay (said_startup m) = lay_startup m
lay (said_ready m) = lay_ready m
lay (said_error m) = lay_error m
lay (said_complete m) = lay_complete m
lay (said_ids m) = lay_ids m
lay (said_types m) = lay_types m
lay (said_control m) = lay_control m
lay (said_reply m) = lay_reply m
lay (said_profile m) = lay_profile m
lay (said_page m) = lay_page m
lay (said_fetch m) = lay_fetch m
lay (said_listing m) = lay_listing m
lay (opaque s) = record { message = Msg.Opaque (span_of 0 s); piece = words s }

-- the number of a message; an opaque one has 0
unfoldable pub entry_of : Said → ℕ
entry_of (said_startup m) = 1
entry_of (said_ready m) = 2
entry_of (said_error m) = 3
entry_of (said_complete m) = 4
entry_of (said_ids m) = 5
entry_of (said_types m) = 6
entry_of (said_control m) = 7
entry_of (said_reply m) = 8
entry_of (said_profile m) = 9
entry_of (said_page m) = 10
entry_of (said_fetch m) = 11
entry_of (said_listing m) = 12
entry_of (opaque s) = 0
