-- What is left to list of a piece: a frame puts its line on the page and leaves the rest, and any other outcome leaves nothing.
use mathlib.Core.Path.{◌≡◌, refl, sym, ◌∙◌, ap}
use mathlib.Core.List.{List, [], ◌∷◌, ◌++◌}
use Prim.Native.Nat.{ℕ, ◌+◌, ◌-◌, ◌*◌, ◌≤◌, ◌<◌, min}
use native.Mathlib.Nat.{zero-add}
use native.Mathlib.Omega.{arith}
use borrow.Rule.Slice.PartMut.{mid_of}
use lib.ListN.{length, drop, length-append, length-drop}
use lib.Seq.{sets, length-sets, take_all, drop-drop}
use Rattle.varint.specs.Outs.{declared}
use Rattle.varint.proofs.StoreLaws.{sets_append}
use Rattle.frame.specs.declared.FrameHeader.{FrameHeader}
use Rattle.frame.specs.declared.receiver.Outcome.{Outcome}
use Rattle.frame.specs.declared.receiver.Outcome.TheVariants.{More, Handed, Stopped, Refused}
use Rattle.frame.specs.declared.receiver.Offered.{Offered}
use Rattle.frame.specs.declared.receiver.Receiver.{Receiver}
use Rattle.frame.specs.Worlds.{World, Lent, editor}
use Rattle.frame.specs.Reading.{frame, Run, done, after}
use Rattle.frame.specs.Offering.{Offer, offering, offer_of, world_of}
use Rattle.frame.specs.Driving.{plus, Driven, later, driving}
use Rattle.frame.proofs.OfferUses.{offer_within, handed_uses}
use Rattle.frame.proofs.DrivingLaws.{driving_none, driving_more, driving_handed, driving_stopped, driving_refused, handed_takes}
use Rattle.listing.specs.declared.Last.{Last}
use Rattle.listing.specs.Lines.{line_of, number_of}
use Rattle.listing.specs.Listing.{lines_of, last_of, Listing, listed}
use Rattle.listing.specs.Inner.Lasts.{last_by}
use Rattle.listing.proofs.PageLaws.{sets_past}
use Rattle.std.specs.Prelude.{Result}
use Rattle.varint.specs.declared.error.Refusal.{Refusal}
use Rattle.protocol.specs.declared.message.Message.{Message}

-- the furthest place that is counted
abbrev pub furthest : ℕ
furthest = 18446744073709551615

-- the run of a piece
abbrev pub run_of : World → List ℕ → Run
run_of w p = (driving editor w (p ∷ [])).run

abbrev pub line_by : FrameHeader → Result Message Refusal → List ℕ
line_by h a = line_of h.kind.0 h.stream h.length (number_of a)

-- the lines of a run from a place of the page on
unfoldable pub from : Run → (page : List ℕ) → (at : ℕ) → Listing
from r page at = record {
  world = r.world;
  last = last_of r.events r.world.receiver;
  len = declared (at + length (lines_of r.events));
  page = sets page at (lines_of r.events);
}

from_start : (r : Run) (page : List ℕ) → from r page 0 ≡ listed r page
unfolding from listed
from_start r page = rw zero-add

-- a frame's line, and then the rest
from_after : (h : FrameHeader) (a : Result Message Refusal) (b : Lent) (u : ℕ) (r : Run) (page : List ℕ) (at : ℕ) → length page ≤ furthest
    → from (after (frame h a b) u r) page at ≡ from r (sets page at (line_by h a)) (declared (at + length (line_by h a)))
unfolding from lines_of last_of after
from_after h a b u r page at f =
    let x : List ℕ = line_by h a in
    let y : List ℕ = lines_of r.events in
    let s : sets page at (x ++ y) ≡ sets (sets page at x) (declared (at + length x)) y =
    sets_append x y page at ∙ sym (sets_past y (sets page at x) (at + length x) furthest (rw length-sets f)) in
    let n : declared (at + (length x + length y)) ≡ declared (declared (at + length x) + length y) = omega arith in
    rw (length-append, s, n)

module _ (w : World) (p page : List ℕ) (at : ℕ) where
  from_handed : (h : FrameHeader) (a : Result Message Refusal) → (offering editor w p).outcome ≡ Handed h a → length page ≤ furthest
      → from (run_of w p) page at
      ≡ from (run_of (offering editor w p).world (drop (offering editor w p).used p)) (sets page at (line_by h a)) (declared (at + length (line_by h a)))
  from_handed h a e f = ap (λ (d : Driven). from d.run page at) (driving_handed editor w p [] h a e) ∙ from_after h a _ _ _ page at f

  -- any other outcome
  from_last : (x : Outcome) → ((h : FrameHeader) (a : Result Message Refusal) → x ≡ Handed h a → ⊥) → (offering editor w p).outcome ≡ x → at ≤ furthest
      → from (run_of w p) page at ≡ record { world = (offering editor w p).world; last = last_by x (offering editor w p).world.receiver; len = at; page = page }
  unfolding from lines_of last_of plus after done later
  from_last More k e f =
      let n : declared (at + 0) ≡ at = omega arith in
      ap (λ (d : Driven). from d.run page at) (driving_more editor w p [] e) ∙ rw (driving_none, n)
  from_last (Handed h a) k e f = absurd (k h a refl)
  from_last (Stopped c) k e f = let n : declared (at + 0) ≡ at = omega arith in ap (λ (d : Driven). from d.run page at) (driving_stopped editor w p [] c e) ∙ rw n
  from_last (Refused c) k e f =
      let n : declared (at + 0) ≡ at = omega arith in
      ap (λ (d : Driven). from d.run page at) (driving_refused editor w p [] c e) ∙ rw (driving_none, n)

-- ---- the loop

-- What is left of the piece from place `at` on, in the world w and with `len` bytes on the page, leads to the same end. There is a line of 84 bytes at most for
-- each nine bytes, those of the header that were held counted too.
pub record Going (to : Listing) (piece : List ℕ) (w : World) (page : List ℕ) (at len : ℕ) : Type 0 where
  pub within : at ≤ length piece
  pub same : from (run_of w (drop at piece)) page len ≡ to
  pub counted : len ≤ furthest
  pub room : 9 * len + 84 * min 9 w.receiver.progress.header_len ≤ 84 * (at + 9)

pub go_start : (w : World) (piece page : List ℕ) → Going (listed (run_of w piece) page) piece w page 0 0
go_start w piece page = record { within = omega arith; same = from_start (run_of w piece) page; counted = omega arith; room = omega arith }

module _ {to : Listing} {piece : List ℕ} {w : World} {page : List ℕ} {at len : ℕ} (g : Going to piece w page at len) {o : Offered} {r : Receiver} {hold text rows nodes : List ℕ}
    (e : offer_of o r hold text rows nodes ≡ offering editor w (mid_of at (length piece - at) piece)) where
  -- the slice that is offered
  offered : offer_of o r hold text rows nodes ≡ offering editor w (drop at piece)
  offered = rw (take_all (length piece - at) (drop at piece) (rw length-drop (omega arith))) at e

  abbrev next : World
  next = world_of r hold text rows nodes

  -- a frame
  module _ (h : FrameHeader) (a : Result Message Refusal) (f : o.outcome ≡ Handed h a) where
    handed : (offering editor w (drop at piece)).outcome ≡ Handed h a
    handed = sym (ap (λ (x : Offer). x.outcome) offered) ∙ f

    pub go_used : (at < at + o.used) × (at + o.used ≤ length piece)
    go_used =
        let u = ap (λ (x : Offer). x.used) offered in
        let l = length-drop at piece in
        let i = g.within in
        (omega (arith, handed_uses editor w (drop at piece) h a handed), omega (arith, offer_within editor w (drop at piece)))

    pub go_on : {number len' : ℕ} {page' : List ℕ} → number ≡ number_of a → len' ≡ declared (len + length (line_of h.kind.0 h.stream h.length number)) → len' ≤ len + 84
        → page' ≡ sets page len (line_of h.kind.0 h.stream h.length number) → length page ≤ furthest → Going to piece next page' (at + o.used) len'
    go_on b n m q k =
        let u = ap (λ (x : Offer). x.used) offered in
        let v = ap (λ (x : Offer). x.world.receiver.progress.header_len) offered in
        let t = handed_takes editor w (drop at piece) h a handed in
        let r = g.room in
        let s = rw (← offered, drop-drop) at (from_handed w (drop at piece) page len h a handed k) in
        record {
          within = go_used.1;
          same = rw (n, q, b) (sym s ∙ g.same);
          counted = omega arith;
          room = omega arith;
        }

  -- the end
  pub go_end : {last : Last} → ((h : FrameHeader) (a : Result Message Refusal) → o.outcome ≡ Handed h a → ⊥) → last ≡ last_by o.outcome r
      → (record { world = next; last = last; len = len; page = page } ≡ to) × (9 * len ≤ 84 * (length piece + 9))
  go_end k q =
      let i = g.within in
      let r = g.room in
      let s = rw (← offered) at (from_last w (drop at piece) page len o.outcome k (sym (ap (λ (x : Offer). x.outcome) offered)) g.counted) in
      (rw q (sym s ∙ g.same), omega arith)
