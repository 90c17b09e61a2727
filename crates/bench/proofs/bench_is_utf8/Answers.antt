use mathlib.Core.Path.{◌∙◌}
use Rattle.varint.proofs.Utf8Laws.{utf8_at_all}
use Rattle.bench.proofs.bench_is_utf8.Goals as goal

pub returns : goal.returns
returns c = c.is_utf8.ensures ∙ utf8_at_all _
