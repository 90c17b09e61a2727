use mathlib.Core.Path.{◌≡◌}
use Prim.Native.Nat.{◌-◌}
use Rattle.varint.specs.Formats.{read_times}
use Rattle.varint.specs.Inner.Again.{Again}
use Rattle.protocol.specs.Inner.Rows.{row}
use Rattle.protocol.specs.Inner.Loading.{mem, SameBuffers, RowFits}
use Rattle.protocol.proofs.RowsLaws.{load_rows}
use Rattle.protocol.proofs.rows.read_rows.Given as goal

abbrev pub invariant-loop : goal.invariant-loop
invariant-loop g l = SameBuffers l.initial.memory l.memory × RowFits l.s l.next (mem l.memory)
    × Again l.memory.check (read_times (row g.R.Row.KIND l.memory.limit) (l.count - l.counter) l.s l.next)
    × (load_rows g.R.Row.KIND l.count l.s l.at (mem l.initial.memory) ≡ load_rows g.R.Row.KIND (l.count - l.counter) l.s l.next (mem l.memory))
