use mathlib.Core.Path.{◌≡◌, refl, sym, ap, ◌∙◌}
use mathlib.Core.List.{List}
use Prim.Native.Nat.{ℕ, ◌+◌, ◌-◌}
use lib.ListN.{get_or}
use native.Mathlib.Nat.{sub-zero}
use Rattle.std.proofs.Common.{rules}
use Rattle.desc.specs.Emitting.{put_number}
use Rattle.desc.specs.Inner.Emission.{put_before, told}
use Rattle.std.specs.Prelude.{Option}
use Rattle.desc.specs.Inner.Rows.{row_at}
use Rattle.desc.specs.Table.{kids_at, table}
use Rattle.varint.specs.Inner.Again.{Again}
use Rattle.desc.proofs.EmitLaws.{parts_tag, turn_done, turn_wrong, node_leaf, node_branch, emit_deep, emit_unfit, emit_leaf, emit_stopped, emit_closed, kids_end, again_fits, again_closed, again_child, again_others}
use Rattle.desc.proofs.EmitPens.{where_yes, where_no}
use Rattle.desc.proofs.NodeFits.{fits}
use Rattle.desc.proofs.write.Table.+emit.Goals.{emit-then-tag-eq-TAG_FACT, emit-else-tag-eq-TAG_FACT}
use Rattle.desc.proofs.write.Table.+emit.Goals as goal

pub emit-returns-then-depth-eq0-clause-written : goal.emit-returns-then-depth-eq0-clause-written
emit-returns-then-depth-eq0-clause-written g t c =
    let a = c.args in
    let tx = a.self.now.text.now in
    let nd = a.self.now.nodes.now in
    let s = put_before tx a.parent (row_at nd a.n) (g.S.Sink.pen a.sink.now) in
    emit_deep tx nd a.depth a.n a.parent s (g.S.Sink.pen a.sink.now) c.if-depth-eq0.true

pub emit-returns-in_err-row-clause-written : goal.emit-returns-in_err-row-clause-written
emit-returns-in_err-row-clause-written g t c =
    let a = c.args in
    let tx = a.self.now.text.now in
    let nd = a.self.now.nodes.now in
    let s = put_before tx a.parent (row_at nd a.n) (g.S.Sink.pen a.sink.now) in
    rw c.from_residual.ensures (emit_unfit tx nd a.depth a.n a.parent s (g.S.Sink.pen a.sink.now) c.if-depth-eq0.false c.in_err-row.ensures)

pub emit-overflow_add-result : goal.emit-overflow_add-result
emit-overflow_add-result g t c =
    let i = (fits _ _ _ c.in_ok-row.ensures.0).inside in
    search rules

pub emit-returns-then-not-is_branch-clause-written : goal.emit-returns-then-not-is_branch-clause-written
emit-returns-then-not-is_branch-clause-written g t c =
    let a = c.args in
    let tx = a.self.now.text.now in
    let nd = a.self.now.nodes.now in
    let s = put_before tx a.parent (row_at nd a.n) (g.S.Sink.pen a.sink.now) in
    let r = c.in_ok-row in
    let row = r.row.now in
    let tag = get_or row 0 0 in
    let predicate = get_or row 4 0 in
    let leaf = node_leaf nd a.depth a.n a.parent c.if-depth-eq0.false r.ensures.0 row r.ensures.1 c.is_branch.ensures c.if-not-is_branch.true in
    let labelled = c.label.ensures.written ∙ ap (λ (x : List ℕ). put_before tx a.parent x (g.S.Sink.pen a.sink.now)) r.ensures.1 in
    let tagged = c.number.ensures.written ∙ ap (put_number tag) labelled in
    elim c.if-tag-eq-TAG_FACT.branch [
      | emit-then-tag-eq-TAG_FACT w ↦
          let o = g.S.Sink.pen w.number-then-tag-eq-TAG_FACT.new.self in
          rw w.sink-is
          (emit_leaf tx nd a.depth a.n a.parent s o tag predicate leaf
          (where_yes tag 2 predicate (put_number tag s) o w.if-tag-eq-TAG_FACT.true (w.number-then-tag-eq-TAG_FACT.ensures.written ∙ ap (put_number predicate) tagged)))
      | emit-else-tag-eq-TAG_FACT w ↦
          let o = g.S.Sink.pen c.number.new.self in
          rw w.sink-is (emit_leaf tx nd a.depth a.n a.parent s o tag predicate leaf (where_no tag 2 predicate (put_number tag s) o w.if-tag-eq-TAG_FACT.false tagged))
    ]

pub emit-returns-in_err-next-clause-written : goal.emit-returns-in_err-next-clause-written
emit-returns-in_err-next-clause-written g t c =
    let a = c.args in
    let tx = a.self.now.text.now in
    let nd = a.self.now.nodes.now in
    let s = put_before tx a.parent (row_at nd a.n) (g.S.Sink.pen a.sink.now) in
    let r = c.in_ok-row in
    let row = r.row.now in
    let o = g.S.Sink.pen c.emit_kids.new.sink in
    let branch = node_branch nd a.depth a.n a.parent c.if-depth-eq0.false r.ensures.0 row r.ensures.1 c.is_branch.ensures c.if-not-is_branch.false in
    rw c.from_residual-in_err-next.ensures
    (emit_stopped tx nd a.depth a.n a.parent s o (get_or row 0 0) (get_or row 5 0) (get_or row 6 0) branch (g.S.Sink.pen c.number-2.new.self)
    (ap (λ (x : Option ℕ). told x o) (sym c.in_err-next.was) ∙ c.emit_kids.ensures.written))

pub emit-returns-clause-written : goal.emit-returns-clause-written
emit-returns-clause-written g t c =
    let a = c.args in
    let tx = a.self.now.text.now in
    let nd = a.self.now.nodes.now in
    let s = put_before tx a.parent (row_at nd a.n) (g.S.Sink.pen a.sink.now) in
    let r = c.in_ok-row in
    let row = r.row.now in
    let tag = get_or row 0 0 in
    let count = get_or row 5 0 in
    let o = g.S.Sink.pen c.emit_kids.new.sink in
    let branch = node_branch nd a.depth a.n a.parent c.if-depth-eq0.false r.ensures.0 row r.ensures.1 c.is_branch.ensures c.if-not-is_branch.false in
    let labelled = c.label.ensures.written ∙ ap (λ (x : List ℕ). put_before tx a.parent x (g.S.Sink.pen a.sink.now)) r.ensures.1 in
    let tagged = c.number.ensures.written ∙ ap (put_number tag) labelled in
    emit_closed tx nd a.depth a.n a.parent s o tag count (get_or row 6 0) branch (g.S.Sink.pen c.number-2.new.self) _
    (ap (λ (x : Option ℕ). told x o) (sym c.in_ok-next.was) ∙ c.emit_kids.ensures.written)
    c.then_some.result
    (c.number-2.ensures.written ∙ ap (put_number count) tagged)
    c.then_some.ensures

pub emit_kids-returns-in_err-next-clause-written : goal.emit_kids-returns-in_err-next-clause-written
emit_kids-returns-in_err-next-clause-written g t c =
    let a = c.args in
    let tx = a.self.now.text.now in
    let nd = a.self.now.nodes.now in
    let l = c.loop in
    let o = g.S.Sink.pen c.emit.new.sink in
    rw c.from_residual.ensures
    (sym
    (l.invariant.1
    ∙ turn_wrong (table a.depth nd) tx nd a.tag a.count l.counter l.next (g.S.Sink.pen l.sink) c.emit.result o c.loop-test.true c.requires.part c.emit.ensures.written c.in_err-next.was))

pub emit_kids-loop-init : goal.emit_kids-loop-init
emit_kids-loop-init g t c = (refl, rw sub-zero refl, rw sub-zero c.requires.laid)

pub emit_kids-loop-preserved : goal.emit_kids-loop-preserved
emit_kids-loop-preserved g t c =
    let a = c.args in
    let tx = a.self.now.text.now in
    let nd = a.self.now.nodes.now in
    let l = c.loop in
    let o = g.S.Sink.pen c.emit.new.sink in
    let done = turn_done (table a.depth nd) tx nd a.tag a.count l.counter l.next (g.S.Sink.pen l.sink) c.emit.result o c.loop-test.true c.requires.part c.emit.ensures.written c.in_ok-next.next c.in_ok-next.was in
    let others = again_others (table a.depth nd) nd a.tag a.count l.counter l.next c.loop-test.true l.invariant.2 tx c.emit.result o _ c.in_ok-next.next c.emit.ensures.written c.in_ok-next.was in
    (c.emit.ensures.kept ∙ l.invariant.0, l.invariant.1 ∙ done, others)

pub emit_kids-emit-requires : goal.emit_kids-emit-requires
emit_kids-emit-requires g t c =
    let a = c.args in
    let nd = a.self.now.nodes.now in
    let again = again_child (table a.depth nd) nd a.tag a.count c.loop.counter c.loop.next c.loop-test.true c.loop.invariant.2 in
    search rules

pub emit-row-requires : goal.emit-row-requires
emit-row-requires g t c = again_fits c.args.self.now.nodes.now c.args.depth c.args.n c.args.parent c.if-depth-eq0.false c.requires

pub emit-emit_kids-requires : goal.emit-emit_kids-requires
emit-emit_kids-requires g t c =
    let a = c.args in
    let nd = a.self.now.nodes.now in
    let r = c.in_ok-row in
    let row = r.row.now in
    let tag = get_or row 0 0 in
    let kids = kids_at (table (a.depth - 1) nd) nd tag (get_or row 5 0) (a.n + 1) in
    let parts = c.if-not-is_branch.false in
    let branch = node_branch nd a.depth a.n a.parent c.if-depth-eq0.false r.ensures.0 row r.ensures.1 c.is_branch.ensures parts in
    let part : tag ≡ 0 → ⊥ = parts_tag tag c.is_branch.ensures parts in
    let laid : Again g.S.Sink.tests kids = again_closed tag (get_or row 6 0) (table a.depth nd a.n a.parent) kids branch c.requires in
    search rules

pub emit_kids-returns-clause-written : goal.emit_kids-returns-clause-written
emit_kids-returns-clause-written g t c =
    let a = c.args in
    let nd = a.self.now.nodes.now in
    let l = c.loop in
    sym (l.invariant.1 ∙ kids_end (table a.depth nd) a.self.now.text.now nd a.tag a.count l.counter l.next (g.S.Sink.pen l.sink) c.loop-test.false)
