use mathlib.Core.Path.{◌≡◌}
use Prim.Native.Nat.{◌+◌, ◌-◌, ◌*◌, ◌≤◌}
use lib.ListN.{length}
use Rattle.varint.specs.Inner.Again.{Again}
use Rattle.desc.specs.Reading.{children, desc}
use Rattle.desc.specs.Inner.Walking.{Keeps, outcome_kids}
use Rattle.desc.proofs.Memory.+walk.Given as goal

abbrev pub decreases-walk : goal.decreases-walk
decreases-walk l = 2 * l.depth

abbrev pub decreases-walk_kids : goal.decreases-walk_kids
decreases-walk_kids l = 2 * l.depth + 1

abbrev pub invariant-walk_kids-loop : goal.invariant-walk_kids-loop
invariant-walk_kids-loop l =
    let s = l.source.s.now in
    let kids = children (desc l.source.limit l.depth s) s l.tag in
    Keeps l.initial.self l.self
    × (l.self.t + l.self.n ≤ l.past)
    × (l.past ≤ length s)
    × (outcome_kids (kids l.count l.at) l.initial.self.text.now l.initial.self.t l.initial.self.nodes.now l.initial.self.n
    ≡ outcome_kids (kids (l.count - l.counter) l.past) l.self.text.now l.self.t l.self.nodes.now l.self.n)
    × Again l.source.check (kids (l.count - l.counter) l.past)
