-- Two worlds that an offer can't tell apart. Document 01 says of a receiver's header "nine header bytes with their count (zeros after)", and of the
-- hold "zero after". A lent receiver may hold anything there: no answer, and none of text, rows and nodes, ever depends on bytes of header or hold
-- past their counts, whatever the state.
use Rattle.std.specs.Prelude.{◌≡◌, length}
use Rattle.frame.specs.Worlds.{World}
use Rattle.frame.specs.Offering.{Offer, stop_of, setup_of, header_held, payload_held}

-- the same kind table, hold length, counts, stop and lent memory, holds of the same length, and the same bytes held
pub record Agree (w w' : World) : Type 0 where
  pub setup : setup_of w.receiver ≡ setup_of w'.receiver
  pub header_len : w.receiver.progress.header_len ≡ w'.receiver.progress.header_len
  pub payload_len : w.receiver.progress.payload_len ≡ w'.receiver.progress.payload_len
  pub stop : stop_of w.receiver ≡ stop_of w'.receiver
  pub lent : w.lent ≡ w'.lent
  pub room : length w.hold ≡ length w'.hold
  pub header : header_held w.receiver.progress ≡ header_held w'.receiver.progress
  pub payload : payload_held w ≡ payload_held w'

-- the same answer and bytes used, and worlds that agree again
pub record AgreeAfter (o o' : Offer) : Type 0 where
  pub outcome : o.outcome ≡ o'.outcome
  pub used : o.used ≡ o'.used
  pub world : Agree o.world o'.world
