-- A list of pieces, each offered as document 01 says.
use Rattle.std.specs.Prelude.{List, [], ◌∷◌, ◌++◌, ℕ, zero, suc, ◌+◌, length, drop}
use Rattle.frame.specs.declared.receiver.Outcome.TheVariants.{More, Handed, Stopped, Refused}
use Rattle.frame.specs.Worlds.{Limits, World}
use Rattle.frame.specs.Reading.{Event, frame, halt, denied, Run, done, after}
use Rattle.frame.specs.Offering.{Offer, offering}

-- the bytes of all pieces, one after the other
unfoldable pub joined : List (List ℕ) → List ℕ
joined [] = []
joined (p ∷ ps) = p ++ joined ps

-- n bytes, and then a run
unfoldable pub plus : ℕ → Run → Run
plus n r = record { events = r.events; used = n + r.used; world = r.world }

-- all that a list of pieces gives: the run, and what each offer after its stop gave, in order
pub record Driven : Type 0 where
  pub run : Run
  pub again : List Offer

-- an offer in the run, and then the rest: nothing handed out, or an event
abbrev pub onward : ℕ → Driven → Driven
onward n d = record { run = plus n d.run; again = d.again }

abbrev pub handing : Event → ℕ → Driven → Driven
handing e n d = record { run = after e n d.run; again = d.again }

-- an offer after the stop, and then the rest: "its refusal counted there and not again"
abbrev pub repeating : Offer → Driven → Driven
repeating o d = record { run = plus o.used d.run; again = o ∷ d.again }

module _ (l : Limits) where
  -- "each later piece is offered once"
  unfoldable pub later : World → List (List ℕ) → Driven
  later w [] = record { run = done 0 w; again = [] }
  later w (p ∷ ps) = repeating (offering l w p) (later (offering l w p).world ps)

  -- "after a frame the rest is offered again. After a stop the run is over, its refusal counted there and not again: what is left of that piece
  -- isn't offered". An offer that is refused is no stop: the next piece is offered.
  unfoldable pub drive : (steps : ℕ) → World → List (List ℕ) → Driven
  drive zero w ps = record { run = done 0 w; again = [] }
  drive (suc steps) w [] = record { run = done 0 w; again = [] }
  drive (suc steps) w (p ∷ ps) =
      let o : Offer = offering l w p in
      elim o.outcome [
        | More ↦ onward o.used (drive steps o.world ps)
        | Handed h a ↦ handing (frame h a o.world.lent) o.used (drive steps o.world (drop o.used p ∷ ps))
        | Stopped e ↦ handing (halt e) o.used (later o.world ps)
        | Refused e ↦ handing (denied e) o.used (drive steps o.world ps)
      ]

-- a step for each piece and each byte is enough
unfoldable pub steps_in : List (List ℕ) → ℕ
steps_in [] = 0
steps_in (p ∷ ps) = suc (length p + steps_in ps)

unfoldable pub driving : Limits → World → List (List ℕ) → Driven
driving l w ps = drive l (suc (steps_in ps)) w ps
