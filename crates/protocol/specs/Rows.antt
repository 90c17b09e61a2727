-- "Rows: claim (name start, name length, fingerprint); id (raw id); type (..); step (..)": how many numbers each has. A fetch's pair is kept as an id.
use Rattle.std.specs.Prelude.{ℕ}
use Rattle.protocol.specs.Ids.{id_width}
use Rattle.protocol.specs.Profile.{step_width}
use Rattle.protocol.specs.Startup.{claim_width}
use Rattle.protocol.specs.Types.{type_width}
use Rattle.protocol.specs.declared.message.RowKind.{RowKind}
use Rattle.protocol.specs.declared.message.RowKind.TheVariants as K

abbrev pub width_of : RowKind → ℕ
width_of K.Claim = claim_width
width_of K.Id = id_width
width_of K.Predicate = type_width
width_of K.Step = step_width
width_of K.Pair = id_width
