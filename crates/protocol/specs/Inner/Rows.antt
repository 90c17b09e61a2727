-- What a row of each kind is, how it is read, and what it leaves in memory: a family, so that the loop over rows and its laws have no case by kind.
use Rattle.std.specs.Prelude.{ℕ}
use Rattle.varint.specs.Formats.{Format, varint}
use Rattle.protocol.specs.Fetch.{pair}
use Rattle.protocol.specs.Ids.{lay_id}
use Rattle.protocol.specs.Pieces.{Piece}
use Rattle.protocol.specs.Profile.{Step, step, lay_step}
use Rattle.protocol.specs.Startup.{Claim, claim, lay_claim}
use Rattle.protocol.specs.Types.{Predicate, predicate, lay_predicate}
use Rattle.protocol.specs.declared.message.RowKind.{RowKind}
use Rattle.protocol.specs.declared.message.RowKind.TheVariants as K

abbrev pub Row : RowKind → Type 0
Row K.Claim = Claim
Row K.Id = ℕ
Row K.Predicate = Predicate
Row K.Step = Step
Row K.Pair = ℕ

abbrev pub row : (kind : RowKind) → ℕ → Format (Row kind)
row K.Claim limit = claim
row K.Id limit = varint
row K.Predicate limit = predicate limit
row K.Step limit = step
row K.Pair limit = pair

abbrev pub lay_row : (kind : RowKind) → Row kind → Piece
lay_row K.Claim = lay_claim
lay_row K.Id = lay_id
lay_row K.Predicate = lay_predicate
lay_row K.Step = lay_step
lay_row K.Pair = lay_id
