-- How a run ends, by the last outcome of an offer.
use Rattle.frame.specs.declared.receiver.Receiver.{Receiver}
use Rattle.frame.specs.declared.receiver.Outcome.{Outcome}
use Rattle.frame.specs.declared.receiver.Outcome.TheVariants as O
use Rattle.frame.specs.declared.receiver.Outcome.TheVariants.{More, Handed}
use Rattle.listing.specs.declared.Last.{Last}
use Rattle.listing.specs.declared.Last.TheVariants.{Held, Stopped}
use Rattle.listing.specs.Lines.{held_of}

abbrev pub last_by : Outcome → Receiver → Last
last_by More r = Held (held_of r)
last_by (Handed h a) r = Held (held_of r)
last_by (O.Stopped e) r = Stopped e.number
last_by (O.Refused e) r = Stopped e.number
