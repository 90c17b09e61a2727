use mathlib.Core.Path.{◌≡◌}
use Rattle.protocol.specs.Rows.{width_of}
use Rattle.protocol_write.specs.Inner.Checking.{row_count}
use Rattle.protocol_write.specs.Inner.Writing.{pen, put_rows}
use Rattle.protocol_write.proofs.RowsLaid.{RowsLaid}
use Rattle.protocol_write.proofs.write.Writer.rows.Given as goal

abbrev pub invariant-loop-row : goal.invariant-loop-row
invariant-loop-row g l = (l.row-iterator.size ≡ width_of g.R.Row.KIND) × (l.self.lent ≡ l.initial.self.lent) × (l.self.out.ghost_name ≡ l.initial.self.out.ghost_name)
    × (put_rows g.R.Row.KIND l.initial.self.lent.now.limit l.initial.self.lent.now.text.now l.rows l.initial.self.lent.now.nodes.now (row_count g.R.Row.KIND l.rows) 0 (pen l.initial.self) ≡ put_rows g.R.Row.KIND l.initial.self.lent.now.limit l.initial.self.lent.now.text.now l.row-iterator.rest.now l.initial.self.lent.now.nodes.now (row_count g.R.Row.KIND l.row-iterator.rest.now) 0 (pen l.self))
    × RowsLaid l.initial.self.lent.now.limit l.row-iterator.rest.now l.initial.self.lent.now.nodes.now g.R.Row.KIND (row_count g.R.Row.KIND l.row-iterator.rest.now) 0
