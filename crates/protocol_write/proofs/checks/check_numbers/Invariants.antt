use mathlib.Core.Path.{◌≡◌}
use Rattle.protocol.specs.Rows.{width_of}
use Rattle.protocol_write.specs.Inner.Checking.{row_count, numbers_fine}
use Rattle.protocol_write.proofs.checks.check_numbers.Given as goal

abbrev pub invariant-loop-row : goal.invariant-loop-row
invariant-loop-row g l = (l.row-iterator.size ≡ width_of g.R.Row.KIND) × (numbers_fine g.R.Row.KIND l.rows (row_count g.R.Row.KIND l.rows) ≡ numbers_fine g.R.Row.KIND l.row-iterator.rest.now (row_count g.R.Row.KIND l.row-iterator.rest.now))
