-- The reading of a run: what a whole run of bytes means, however it came. Demand 3 holds everything that is offered in pieces against it.
use Rattle.std.specs.Prelude.{List, [], ◌∷◌, ℕ, zero, suc, ◌+◌, ◌-◌, min, ltb, length, take, drop, get_or, replicate, Result}
use Rattle.varint.specs.Choice.{pick}
use Rattle.varint.specs.Lent.{Left}
use Rattle.varint.specs.Refusals.{code_of}
use Rattle.varint.specs.declared.error.Code.{Code}
use Rattle.varint.specs.declared.error.Buffer.TheVariants.{Hold}
use Rattle.varint.specs.declared.error.Refusal.{Refusal}
use Rattle.varint.specs.declared.error.Refusal.TheVariants.{BlockTooLarge, TooSmall}
use Rattle.protocol.specs.Decoding.{decode_message}
use Rattle.frame.specs.declared.FrameHeader.{FrameHeader}
use Rattle.frame.specs.Frames.{kind_of, length_of, header_of}
use Rattle.frame.specs.Worlds.{Limits, Setup, Lent, World, receiver_of, running, pad}
use Rattle.protocol.specs.declared.message.Message.{Message}

-- what is handed out: a frame "by kind, stream, length, and message or refusal with details, and by text, rows and nodes as they stand
-- when it is handed out"; or the stop's refusal. A driver can also meet an offer that is refused while nothing stopped the run: no reading has that.
pub data Event : Type 0 where
  frame : FrameHeader → Result Message Refusal → Lent → Event
  halt : Code → Event
  denied : Code → Event

-- all that a run leaves: what was handed out, how many bytes were used in all, the receiver and the lent memory
pub record Run : Type 0 where
  pub events : List Event
  pub used : ℕ
  pub world : World

-- n bytes used, nothing handed out
unfoldable pub done : ℕ → World → Run
done n w = record { events = []; used = n; world = w }

-- an event and n bytes, and then a run
unfoldable pub after : Event → ℕ → Run → Run
after e n r = record { events = e ∷ r.events; used = n + r.used; world = r.world }

-- ---- what stands first

-- what nine header bytes say: a refusal, or how many bytes of payload follow
pub data Verdict : Type 0 where
  refuse : Refusal → Verdict
  gather : ℕ → Verdict

-- "length over the maximum stops with 12, over the hold's length with 16(4, length)"
unfoldable pub judge : Limits → (room : ℕ) → List ℕ → Verdict
judge l room hd =
    pick (ltb l.payload (length_of hd)) (refuse (BlockTooLarge (length_of hd) l.payload))
    (pick (ltb room (length_of hd)) (refuse (TooSmall Hold (length_of hd))) (gather (length_of hd)))

-- less than a frame, a header that stops the run, or a frame of n payload bytes
pub data First : Type 0 where
  short : First
  bad : Refusal → First
  whole : ℕ → First

unfoldable pub first_of : Verdict → ℕ → First
first_of (refuse e) len = bad e
first_of (gather n) len = pick (ltb len (9 + n)) short (whole n)

-- "an accepted message sets these three as its decoder's definition says, an opaque one as said above, and a refused one keeps them"
abbrev pub lent_by : Left Message → Lent
lent_by x = record { text = x.text; rows = x.rows; nodes = x.nodes }

module _ (l : Limits) (c : Setup) where
  unfoldable pub first : List ℕ → First
  first s = pick (ltb (length s) 9) short (first_of (judge l c.room (take 9 s)) (length s))

  -- ---- what becomes of it

  -- "under nine bytes left, they are held"; "Short payload: header and payload held, hold zero after."
  unfoldable pub holding : List ℕ → Lent → World
  holding s b = record { receiver = receiver_of c (pad 9 (take 9 s)) (min 9 (length s)) (length s - 9) running; hold = pad c.room (drop 9 s); lent = b }

  -- a stop, "nine header bytes held and hold zero", "the count of payload bytes held (0 at a stop), and the stop with its details"
  unfoldable pub stopped_at : List ℕ → Refusal → Lent → World
  stopped_at hd e b = record { receiver = receiver_of c hd 9 0 (code_of e); hold = replicate c.room 0; lent = b }

  -- the message of a kind: "An entry 1 to 12 names a message; any other is opaque"
  unfoldable pub decoded_kind : (kind : ℕ) → List ℕ → Lent → Left Message
  decoded_kind kind payload b = decode_message l.payload l.depth (get_or c.table kind 0) payload b.text b.rows b.nodes

  -- the frame of n payload bytes that s begins with
  unfoldable pub answered : ℕ → List ℕ → Lent → Left Message
  answered n s b = decoded_kind (kind_of (take 9 s)) (take n (drop 9 s)) b

  abbrev pub frame_of : ℕ → List ℕ → Lent → Event
  frame_of n s b = frame (header_of (take 9 s)) (answered n s b).answer (lent_by (answered n s b))

  -- ---- the reading

  -- Each step takes nine bytes or more, so a number of steps over the length of the run is enough: see `reading`.
  unfoldable pub read : (steps : ℕ) → List ℕ → Lent → Run
  read zero s b = done 0 (holding s b)
  read (suc steps) s b =
      elim (first s) [
        | short ↦ done (length s) (holding s b)
        | bad e ↦ after (halt (code_of e)) 9 (done 0 (stopped_at (take 9 s) e b))
        | whole n ↦ after (frame_of n s b) (9 + n) (read steps (drop (9 + n) s) (lent_by (answered n s b)))
      ]

  unfoldable pub reading : List ℕ → Lent → Run
  reading s b = read (suc (length s)) s b
