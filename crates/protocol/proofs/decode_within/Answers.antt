use mathlib.Core.Path.{refl}
use Rattle.protocol.specs.Complete.{read_complete, lay_complete}
use Rattle.protocol.specs.Listing.{read_listing, lay_listing}
use Rattle.protocol.specs.Ready.{read_ready, lay_ready}
use Rattle.protocol.specs.Said.{said_ready, said_complete, said_listing, read_entry, lay}
use Rattle.protocol.proofs.DecodeLaws.{decode_bare_lem}
use Rattle.protocol.proofs.MessageReads.{entry_bare}
use Rattle.protocol.proofs.decode_within.Goals as goal

pub returns-in-Ready : goal.returns-in-Ready
unfolding read_entry lay lay_ready
returns-in-Ready c =
    rw (c.decode_bare.ensures, c.in-Ready.is)
    (decode_bare_lem c.args.max c.args.limit 2 c.args.payload.now c.args.text.now c.args.rows.now c.args.nodes.now c.if-max-length.false
    (entry_bare said_ready lay_ready (λ a. refl) (λ a. refl) (read_ready c.args.payload.now) (λ limit. refl) c.read_ready.ensures))

pub returns-in-Complete : goal.returns-in-Complete
unfolding read_entry lay lay_complete
returns-in-Complete c =
    rw (c.decode_bare-in-Complete.ensures, c.in-Complete.is)
    (decode_bare_lem c.args.max c.args.limit 4 c.args.payload.now c.args.text.now c.args.rows.now c.args.nodes.now c.if-max-length.false
    (entry_bare said_complete lay_complete (λ a. refl) (λ a. refl) (read_complete c.args.payload.now) (λ limit. refl) c.read_complete.ensures))

pub returns-in-ListingDigest : goal.returns-in-ListingDigest
unfolding read_entry lay lay_listing
returns-in-ListingDigest c =
    rw (c.decode_bare-in-ListingDigest.ensures, c.in-ListingDigest.is)
    (decode_bare_lem c.args.max c.args.limit 12 c.args.payload.now c.args.text.now c.args.rows.now c.args.nodes.now c.if-max-length.false
    (entry_bare said_listing lay_listing (λ a. refl) (λ a. refl) (read_listing c.args.payload.now) (λ limit. refl) c.read_listing_digest.ensures))
