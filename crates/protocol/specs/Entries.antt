-- "An entry 1 to 12 names a message; any other is opaque".
use Rattle.std.specs.Prelude.{◌≡◌, refl, ℕ, eqb, Option, None, Some}
use Rattle.varint.specs.Choice.{pick}
use Rattle.protocol.specs.declared.entry.Entry.{Entry}
use Rattle.protocol.specs.declared.entry.Entry.TheVariants as E

abbrev pub entry_number : Entry → ℕ
entry_number E.Startup = 1
entry_number E.Ready = 2
entry_number E.Error = 3
entry_number E.Complete = 4
entry_number E.Ids = 5
entry_number E.Types = 6
entry_number E.Control = 7
entry_number E.Reply = 8
entry_number E.Profile = 9
entry_number E.Page = 10
entry_number E.Fetch = 11
entry_number E.ListingDigest = 12

abbrev pub entry_of : ℕ → Option Entry
entry_of n =
    pick (eqb n 1) (Some E.Startup) (pick (eqb n 2) (Some E.Ready) (pick (eqb n 3) (Some E.Error)
    (pick (eqb n 4) (Some E.Complete) (pick (eqb n 5) (Some E.Ids) (pick (eqb n 6) (Some E.Types)
    (pick (eqb n 7) (Some E.Control) (pick (eqb n 8) (Some E.Reply) (pick (eqb n 9) (Some E.Profile)
    (pick (eqb n 10) (Some E.Page) (pick (eqb n 11) (Some E.Fetch) (pick (eqb n 12) (Some E.ListingDigest)
    None)))))))))))

example_control : entry_of (entry_number E.Control) ≡ Some E.Control
example_control = refl

example_opaque : entry_of 13 ≡ None
example_opaque = refl
