-- The messages that have only one encoding, so that a payload that is read is the bytes of what it says. The others do not: error, ids and
-- types let bytes follow, and in types, control, reply and profile every flag but 0 means yes.
use Rattle.std.specs.Prelude.{ℕ}

-- by their numbers
pub data Canonical : ℕ → Type 0 where
  startup : Canonical 1
  ready : Canonical 2
  complete : Canonical 4
  page : Canonical 10
  fetch : Canonical 11
  listing : Canonical 12
