use mathlib.Core.Path.{sym, ◌∙◌}
use Rattle.varint.proofs.Utf8Laws.{utf8_end}
use Rattle.varint.proofs.utf8.is_mixed.Goals as goal

pub returns : goal.returns
returns c = sym (c.loop-at.invariant.same ∙ utf8_end _ c.loop-at.at c.loop-at-test.false)
