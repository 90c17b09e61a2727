use mathlib.Core.Path.{◌≡◌}
use Prim.Native.Nat.{◌-◌, ◌+◌, ◌*◌}
use Rattle.varint.specs.Inner.Again.{Again}
use Rattle.desc.specs.Inner.Emission.{kids_emission}
use Rattle.desc.specs.Table.{kids_at, table}
use Rattle.desc.proofs.write.Table.+emit.Given as goal

abbrev pub decreases-emit : goal.decreases-emit
decreases-emit g l = 2 * l.depth

abbrev pub decreases-emit_kids : goal.decreases-emit_kids
decreases-emit_kids g l = 2 * l.depth + 1

abbrev pub invariant-emit_kids-loop : goal.invariant-emit_kids-loop
invariant-emit_kids-loop g l =
    let tx = l.self.text.now in
    let nd = l.self.nodes.now in
    let kids = kids_at (table l.depth nd) nd l.tag in
    (g.S.Sink.lent l.sink ≡ g.S.Sink.lent l.initial.sink)
    × (kids_emission tx l.tag (kids l.count l.n) (g.S.Sink.pen l.initial.sink) ≡ kids_emission tx l.tag (kids (l.count - l.counter) l.next) (g.S.Sink.pen l.sink))
    × Again g.S.Sink.tests (kids (l.count - l.counter) l.next)
