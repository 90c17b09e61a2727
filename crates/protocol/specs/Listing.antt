-- 12 listing digest: "predicate (over 32 bits is 14), digest".
use Rattle.varint.specs.Leb128.{read_from, get_u64}
use Rattle.std.specs.Prelude.{◌≡◌, refl, List, [], ◌∷◌, ℕ, Ok, Err}
use Rattle.varint.specs.Got.{Got}
use Rattle.varint.specs.Formats.{Format, varint, ◌⊗◌, named}
use Rattle.varint.specs.declared.error.Refusal.TheVariants.{BadListingPredicate}
use Rattle.protocol.specs.Fields.{provided, narrow}
use Rattle.protocol.specs.Laying.{Laid}
use Rattle.protocol.specs.Pieces.{none}
use Rattle.protocol.specs.Wholes.{ended}
use Rattle.protocol.specs.declared.message.Message.TheVariants as Msg

pub record Listing : Type 0 where
  pub predicate : ℕ
  pub digest : ℕ

abbrev pub to_listing : ℕ × ℕ → Listing
to_listing c = record { predicate = c.0; digest = c.1 }

abbrev pub from_listing : Listing → ℕ × ℕ
from_listing m = (m.predicate, m.digest)

abbrev pub listing : Format Listing
listing =
    named to_listing from_listing
    (provided narrow BadListingPredicate varint
    ⊗ varint)

unfoldable pub read_listing : List ℕ → Got Listing
read_listing s = ended s (listing.read s 0)

unfoldable pub lay_listing : Listing → Laid
lay_listing m = record { message = Msg.ListingDigest m.predicate m.digest; piece = none }

example_read : read_listing (0xFF ∷ 0xFF ∷ 0xFF ∷ 0xFF ∷ 0x0F ∷ 0x00 ∷ []) ≡ Ok (record { predicate = 4294967295; digest = 0 }, 6)
unfolding read_listing get_u64 read_from
example_read = refl

-- the predicate is refused before the digest is missed
example_wide : read_listing (0x80 ∷ 0x80 ∷ 0x80 ∷ 0x80 ∷ 0x10 ∷ []) ≡ Err (BadListingPredicate 4294967296)
unfolding read_listing get_u64 read_from
example_wide = refl
