-- Opening a receiver, and offering it a piece: what both do for every receiver and all lent memory.
use Rattle.std.specs.Prelude.{Bool, true, ◌≡◌, refl, List, [], ◌∷◌, ◌++◌, ℕ, ◌+◌, ◌-◌, eqb, ltb, leb, length, take, drop, replicate, Result, Ok, Err}
use Rattle.varint.specs.Choice.{pick}
use Rattle.varint.specs.Fixed.{le}
use Rattle.varint.specs.Lent.{Left}
use Rattle.varint.specs.Refusals.{code_of}
use Rattle.varint.specs.Stores.{part}
use Rattle.varint.specs.declared.error.Code.{Code}
use Rattle.varint.specs.declared.error.Refusal.TheVariants.{BadReceiver, BadKindTable}
use Rattle.protocol.specs.declared.message.Message.{Message}
use Rattle.frame.specs.declared.receiver.Progress.{Progress}
use Rattle.frame.specs.declared.receiver.Receiver.{Receiver}
use Rattle.frame.specs.declared.receiver.Offered.{Offered}
use Rattle.frame.specs.declared.receiver.Outcome.{Outcome}
use Rattle.frame.specs.declared.receiver.Outcome.TheVariants.{More, Handed, Stopped, Refused}
use Rattle.frame.specs.declared.FrameHeader.{FrameHeader}
use Rattle.frame.specs.Frames.{kind_of, length_of, header_of}
use Rattle.frame.specs.Worlds.{Limits, Setup, World, editor, receiver_of, running, pad}
use Rattle.frame.specs.Reading.{Verdict, refuse, gather, judge, decoded_kind, lent_by}
use Rattle.varint.specs.declared.error.Refusal.{Refusal}

-- ---- opening

pub record Opens : Type 0 where
  pub opening : Result (Unit {0}) Refusal
  pub receiver : Receiver
  pub hold : List ℕ

-- "18 unless the kind table has 256 bytes; hold and host's receiver then stay unaltered." "Opening clears the hold."
unfoldable pub opens : Receiver → (table hold : List ℕ) → Opens
opens r table hold =
    pick (eqb (length table) 256)
    (record {
      opening = Ok tt;
      receiver = receiver_of (record { table = table; room = length hold }) (replicate 9 0) 0 0 running;
      hold = replicate (length hold) 0;
    })
    (record { opening = Err (BadKindTable (length table)); receiver = r; hold = hold })

-- ---- an offer

-- what an offer answers, the bytes that it used, and everything after it
pub record Offer : Type 0 where
  pub outcome : Outcome
  pub used : ℕ
  pub world : World

-- "Nothing is used or altered by these three."
abbrev pub declined : Code → World → Offer
declined e w = record { outcome = Refused e; used = 0; world = w }

abbrev pub stop_of : Receiver → Code
stop_of r = record { number = r.progress.stop; a = r.progress.stop_a; b = r.progress.stop_b }

abbrev pub setup_of : Receiver → Setup
setup_of r = record { table = r.table; room = r.progress.hold_len }

-- the receiver with another header and other counts
abbrev pub advanced : Receiver → (header : List ℕ) → (header_len payload_len : ℕ) → Receiver
advanced r hd g n = receiver_of (setup_of r) hd g n (stop_of r)

-- the header bytes and the payload bytes that are held: bytes past their counts count as absent
abbrev pub header_held : Progress → List ℕ
header_held p = take p.header_len p.header

abbrev pub payload_held : World → List ℕ
payload_held w = take w.receiver.progress.payload_len w.hold

-- "at nine, a length over the maximum or the hold, or payload held not below that length"
abbrev pub overfull : Verdict → (payload_len : ℕ) → Bool
overfull (refuse e) have = true
overfull (gather n) have = leb n have

-- "17 if the counts are impossible (over 9 header bytes; payload held before the ninth; ..)"
unfoldable pub impossible : Limits → Progress → Bool
impossible l p =
    pick (ltb 9 p.header_len) true
    (pick (ltb p.header_len 9) (ltb 0 p.payload_len) (overfull (judge l p.hold_len (header_held p)) p.payload_len))

-- The frame is whole: "header and hold are zero again".
unfoldable pub handed : World → FrameHeader → (used : ℕ) → Left Message → Offer
handed w h u x = record {
  outcome = Handed h x.answer;
  used = u;
  world = record { receiver = advanced w.receiver (replicate 9 0) 0 0; hold = replicate (length w.hold) 0; lent = lent_by x };
}

module _ (l : Limits) where
  -- nine header bytes hd are there, u bytes of the piece went into them, q is left of it, and n bytes of payload are wanted
  unfoldable pub loads : (w : World) → (hd : List ℕ) → (u : ℕ) → (q : List ℕ) → (n : ℕ) → Offer
  loads w hd u q n =
      let have : ℕ = w.receiver.progress.payload_len in
      let payload : List ℕ = payload_held w ++ take (n - have) q in
      pick (ltb (length payload) n)
      (record {
        outcome = More;
        used = u + length q;
        world = record { receiver = advanced w.receiver hd 9 (length payload); hold = payload ++ drop (length payload) w.hold; lent = w.lent };
      })
      (handed w (header_of hd) (u + (n - have)) (decoded_kind l (setup_of w.receiver) (kind_of hd) payload w.lent))

  unfoldable pub settles : Verdict → (w : World) → (hd : List ℕ) → (u : ℕ) → (q : List ℕ) → Offer
  settles (gather n) w hd u q = loads w hd u q n
  settles (refuse e) w hd u q = record {
    outcome = Stopped (code_of e);
    used = u;
    world = record { receiver = receiver_of (setup_of w.receiver) hd 9 0 (code_of e); hold = replicate (length w.hold) 0; lent = w.lent };
  }

  -- as the reading says: "A call reads to the first frame's end, a stop or the piece's end, and gives the bytes used (at a stop, through the ninth header byte)"
  unfoldable pub takes : World → List ℕ → Offer
  takes w p =
      let r : Receiver = w.receiver in
      let lacks : ℕ = 9 - r.progress.header_len in
      let hd : List ℕ = header_held r.progress ++ take lacks p in
      pick (ltb (length hd) 9)
      (record { outcome = More; used = length p; world = record { receiver = advanced r (pad 9 hd) (length hd) 0; hold = w.hold; lent = w.lent } })
      (settles (judge l r.progress.hold_len hd) w hd lacks (drop lacks p))

  -- "17 if the hold's length isn't that of the opening; the stored refusal if stopped; 17 if the counts are impossible .. Then as the reading says."
  unfoldable pub offering : World → List ℕ → Offer
  offering w p =
      pick (eqb (length w.hold) w.receiver.progress.hold_len)
      (pick (eqb w.receiver.progress.stop 0)
      (pick (impossible l w.receiver.progress) (declined (code_of BadReceiver) w) (takes w p))
      (declined (stop_of w.receiver) w))
      (declined (code_of BadReceiver) w)

-- ---- an opening, and the three refusals of an offer, worked out

-- a receiver whose kind table has two entries, with a hold of three bytes that was opened for `room`, so many bytes held, and a stop
sample : (room header_len payload_len : ℕ) → Code → World
sample room g n e = record { receiver = receiver_of (record { table = 4 ∷ 7 ∷ []; room = room }) (replicate 9 5) g n e; hold = 6 ∷ 6 ∷ 6 ∷ []; lent = record { text = 8 ∷ []; rows = []; nodes = [] } }

-- 256 entries: the table is kept, header and counts are zero, the hold is cleared and its length kept
example_opened : opens (sample 3 9 9 (code_of BadReceiver)).receiver (replicate 256 7) (6 ∷ 6 ∷ [])
    ≡ record { opening = Ok tt; receiver = receiver_of (record { table = replicate 256 7; room = 2 }) (replicate 9 0) 0 0 running; hold = 0 ∷ 0 ∷ [] }
unfolding opens sample
example_opened = refl

-- 255 entries are 18(255): receiver and hold stay as they were
example_table : opens (sample 3 1 0 running).receiver (replicate 255 7) (6 ∷ 6 ∷ []) ≡ record { opening = Err (BadKindTable 255); receiver = (sample 3 1 0 running).receiver; hold = 6 ∷ 6 ∷ [] }
unfolding opens sample
example_table = refl

-- a hold of three bytes where four were opened: 17, also of a receiver that is stopped
example_hold : offering editor (sample 4 0 0 (code_of (BadKindTable 1))) (1 ∷ []) ≡ declined (code_of BadReceiver) (sample 4 0 0 (code_of (BadKindTable 1)))
unfolding offering sample
example_hold = refl

-- stopped: the stored refusal, also where the counts are impossible
example_stop : offering editor (sample 3 10 0 (record { number = 12; a = 70000000; b = 67108864 })) (1 ∷ []) ≡ declined (record { number = 12; a = 70000000; b = 67108864 }) (sample 3 10 0 (record { number = 12; a = 70000000; b = 67108864 }))
unfolding offering sample
example_stop = refl

-- ten header bytes; payload held before the ninth; and nine header bytes whose length is over the hold's: 17
example_counts : offering editor (sample 3 10 0 running) (1 ∷ []) ≡ declined (code_of BadReceiver) (sample 3 10 0 running)
unfolding offering impossible sample
example_counts = refl

example_early : offering editor (sample 3 8 1 running) (1 ∷ []) ≡ declined (code_of BadReceiver) (sample 3 8 1 running)
unfolding offering impossible sample
example_early = refl

example_long : offering editor (sample 3 9 0 running) (1 ∷ []) ≡ declined (code_of BadReceiver) (sample 3 9 0 running)
unfolding offering impossible sample judge length_of le part
example_long = refl

-- ---- the memory of a call, as the definitions have it

abbrev pub world_of : Receiver → (hold text rows nodes : List ℕ) → World
world_of r hold text rows nodes = record { receiver = r; hold = hold; lent = record { text = text; rows = rows; nodes = nodes } }

abbrev pub offer_of : Offered → Receiver → (hold text rows nodes : List ℕ) → Offer
offer_of o r hold text rows nodes = record { outcome = o.outcome; used = o.used; world = world_of r hold text rows nodes }
