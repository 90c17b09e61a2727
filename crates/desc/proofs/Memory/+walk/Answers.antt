use mathlib.Core.Path.{◌≡◌, refl, sym, ap, ◌∙◌}
use Prim.Native.Nat.{ℕ, ◌+◌}
use native.Mathlib.Omega.{arith}
use native.Mathlib.Nat.{sub-zero}
use borrow.Author.Rules.{rules}
use Rattle.std.specs.Prelude.{Result}
use Rattle.std.proofs.lemmas.Result.{err_from_is_err_and}
use Rattle.varint.specs.Got.{Got, got}
use Rattle.varint.specs.declared.error.Refusal.{Refusal}
use Rattle.desc.specs.declared.head.Head.{Head}
use Rattle.desc.specs.Inner.Walking.{reached}
use Rattle.desc.specs.Reading.{desc}
use Rattle.desc.proofs.HeadLaws.{head_inside, branch_inside, label_inside}
use Rattle.desc.proofs.Outcomes.{agrees_read}
use Rattle.desc.proofs.ReadAgain.{branch_again, kid_label, kid_again, kids_again}
use Rattle.desc.proofs.Turns.{label_had, label_lacks, child_told, turn, turn_label, turn_refused, turn_end}
use Rattle.desc.proofs.WalkLaws.{walk_deep, walk_bad, walk_leaf, walk_refused, walk_read}
use Rattle.desc.proofs.Memory.+walk.Goals as goal

-- the head that was read, by its variant
headed : {h k : Head} {q : ℕ} {r x : Got Head} → r ≡ x → r ≡ got h q → h ≡ k → x ≡ got k q
headed e w i = sym e ∙ rw i at w

pub walk-returns-then-too_deep-clause-read : goal.walk-returns-then-too_deep-clause-read
unfolding reached
walk-returns-then-too_deep-clause-read t c =
    let a = c.args in
    let m = a.self.now in
    let l = a.label in
    walk_deep a.source.now.limit a.depth a.source.now.s.now a.at m.text.now m.t m.nodes.now m.n (l.name.start, l.name.len) l.discriminant _ _ c.if-too_deep.true

pub walk-returns-in_err-head-clause-read : goal.walk-returns-in_err-head-clause-read
unfolding reached
walk-returns-in_err-head-clause-read t c =
    let a = c.args in
    let m = a.self.now in
    let l = a.label in
    let p = err_from_is_err_and c.from_residual.result c.from_residual.ensures.1 in
    rw (p.1, p.2)
    (walk_bad a.source.now.limit a.depth a.source.now.s.now a.at m.text.now m.t m.nodes.now m.n (l.name.start, l.name.len) l.discriminant _ _ _ c.if-too_deep.false (sym c.read_head.ensures ∙ c.in_err-head.was))

pub walk-overflow_add-self : goal.walk-overflow_add-self
walk-overflow_add-self t c =
    let h = head_inside _ _ _ c.in_ok-head.head (sym c.read_head.ensures ∙ c.in_ok-head.was) in
    let h₀ = h.0 in
    let b = c.requires.before in
    search rules

pub walk-overflow_add-n : goal.walk-overflow_add-n
walk-overflow_add-n t c =
    let h = head_inside _ _ _ c.in_ok-head.head (sym c.read_head.ensures ∙ c.in_ok-head.was) in
    let h₀ = h.0 in
    let b = c.requires.before in
    search rules

pub walk-returns-in-Leaf-clause-read : goal.walk-returns-in-Leaf-clause-read
unfolding reached
walk-returns-in-Leaf-clause-read t c =
    let a = c.args in
    let m = a.self.now in
    let l = a.label in
    walk_leaf a.source.now.limit a.depth a.source.now.s.now a.at m.text.now m.t m.nodes.now m.n (l.name.start, l.name.len) l.discriminant _ _ _ _ c.if-too_deep.false (headed c.read_head.ensures c.in_ok-head.was c.in-Leaf.is) c.requires.before c.store_node.ensures

pub walk-walk_kids-requires : goal.walk-walk_kids-requires
walk-walk_kids-requires t c =
    let a = c.args in
    let f = headed c.read_head.ensures c.in_ok-head.was c.in-Branch.is in
    let h = branch_inside _ _ _ _ _ f in
    let h₀ = h.0 in
    let p = c.requires.before in
    let d = c.decreases in
    let z = c.if-too_deep.false in
    (omega arith, (omega arith, (h.1, branch_again a.source.now.s.now a.source.now.limit a.depth a.at c.if-too_deep.false f c.requires.again)))

pub walk-returns-in_err-past-in-Branch-clause-read : goal.walk-returns-in_err-past-in-Branch-clause-read
unfolding reached
walk-returns-in_err-past-in-Branch-clause-read t c =
    let a = c.args in
    let m = a.self.now in
    let b = a.label in
    let p = err_from_is_err_and c.from_residual-in_err-past-in-Branch.result c.from_residual-in_err-past-in-Branch.ensures.1 in
    rw (p.1, p.2)
    (walk_refused a.source.now.limit a.depth a.source.now.s.now a.at m.text.now m.t m.nodes.now m.n (b.name.start, b.name.len) b.discriminant _ _ _ _ _ _ c.if-too_deep.false (headed c.read_head.ensures c.in_ok-head.was c.in-Branch.is) c.walk_kids.ensures.read _ (ap (λ (x : Result ℕ Refusal). reached x c.walk_kids.new.self) c.in_err-past-in-Branch.was) _ _)

pub walk-returns-in_ok-past-in-Branch-clause-read : goal.walk-returns-in_ok-past-in-Branch-clause-read
unfolding reached
walk-returns-in_ok-past-in-Branch-clause-read t c =
    let a = c.args in
    let m = a.self.now in
    let b = a.label in
    walk_read a.source.now.limit a.depth a.source.now.s.now a.at m.text.now m.t m.nodes.now m.n (b.name.start, b.name.len) b.discriminant _ _ _ _ _ _ c.if-too_deep.false (headed c.read_head.ensures c.in_ok-head.was c.in-Branch.is) c.walk_kids.ensures.read _ _ _ (ap (λ (x : Result ℕ Refusal). reached x c.walk_kids.new.self) c.in_ok-past-in-Branch.was) _ c.store_node-in-Branch.ensures

pub walk_kids-loop-init : goal.walk_kids-loop-init
walk_kids-loop-init t c = ((refl, refl), c.requires.before, c.requires.inside, rw sub-zero refl, rw sub-zero c.requires.again)

pub walk_kids-label-requires-clause-again : goal.walk_kids-label-requires-clause-again
walk_kids-label-requires-clause-again t c =
    let a = c.args in
    let l = c.loop in
    kid_label a.source.now.s.now (desc a.source.now.limit a.depth a.source.now.s.now) _ _ l.counter l.past c.loop-test.true l.invariant.4

pub walk_kids-returns-in_err-child-clause-read : goal.walk_kids-returns-in_err-child-clause-read
unfolding reached
walk_kids-returns-in_err-child-clause-read t c =
    let a = c.args in
    let s = a.source.now.s.now in
    let l = c.loop in
    let p = err_from_is_err_and c.from_residual.result c.from_residual.ensures.1 in
    rw (p.1, p.2, l.invariant.3)
    (turn_label (desc a.source.now.limit a.depth s) s a.tag _ l.counter l.past l.self.t l.self.n _ l.self.text.now l.self.nodes.now _ _ _ c.loop-test.true (label_lacks s l.self c.label.new.self _ c.label.ensures.read c.in_err-child.was))

pub walk_kids-walk-requires : goal.walk_kids-walk-requires
walk_kids-walk-requires t c =
    let a = c.args in
    let l = c.loop in
    let g = c.in_ok-child in
    let w = label_had a.source.now.s.now l.self c.label.new.self _ c.label.ensures.read g.was in
    let f = label_inside _ _ _ _ _ _ _ w.is in
    let f₀ = f.0 in
    let f₁ = f.1 in
    let i = l.invariant.1 in
    let x = w.t in
    let y = w.n in
    let d = c.decreases in (
      omega arith,
      (omega arith, kid_again a.source.now.s.now (desc a.source.now.limit a.depth a.source.now.s.now) _ _ l.counter l.past c.loop-test.true l.invariant.4 w.is),
    )

pub walk_kids-returns-in_err-past-clause-read : goal.walk_kids-returns-in_err-past-clause-read
unfolding reached
walk_kids-returns-in_err-past-clause-read t c =
    let a = c.args in
    let s = a.source.now.s.now in
    let l = c.loop in
    let g = c.in_ok-child in
    let rd = desc a.source.now.limit a.depth s in
    let w = label_had s l.self c.label.new.self _ c.label.ensures.read g.was in
    let p = err_from_is_err_and c.from_residual-in_err-past.result c.from_residual-in_err-past.ensures.1 in
    rw (p.1, p.2, l.invariant.3)
    (turn_refused rd s a.tag _ l.counter l.past l.self.t l.self.n _ l.self.text.now l.self.nodes.now _ _ _ c.loop-test.true w.from g.child.name.len g.child.discriminant g.body _ _ _ _ _ w.is (child_told s l.self c.label.new.self w (rd g.body) _ _ _ _ c.walk.ensures.read) (ap (λ (x : Result ℕ Refusal). reached x c.walk.new.self) c.in_err-past.was))

pub walk_kids-loop-preserved : goal.walk_kids-loop-preserved
unfolding reached
walk_kids-loop-preserved t c =
    let a = c.args in
    let s = a.source.now.s.now in
    let l = c.loop in
    let g = c.in_ok-child in
    let u = g.child in
    let n = c.in_ok-past in
    let m = c.walk.new.self in
    let rd = desc a.source.now.limit a.depth s in
    let w = label_had s l.self c.label.new.self _ c.label.ensures.read g.was in
    let told = child_told s l.self c.label.new.self w (rd g.body) _ _ _ _ c.walk.ensures.read in
    let was = ap (λ (x : Result ℕ Refusal). reached x m) n.was in
    let f = agrees_read (rd g.body) c.label.new.self.text.now (l.self.t + u.name.len) l.self.nodes.now l.self.n (l.self.t, u.name.len) u.discriminant _ _ _ _ n.past m.t m.n told was in
    let j = c.label.ensures.kept in
    let k = c.walk.ensures.kept in (
      (k.0 ∙ j.0 ∙ l.invariant.0.0, k.1 ∙ j.1 ∙ l.invariant.0.1),
      f.below,
      f.within,
      l.invariant.3 ∙ turn rd s _ _ l.counter l.past w.from u.name.len u.discriminant g.body n.past l.self.t l.self.n m.t m.n _ l.self.text.now _ _ l.self.nodes.now _ _ c.loop-test.true w.is w.copied told was,
      kids_again s rd _ _ l.counter l.past c.loop-test.true l.invariant.4 w.is f.is,
    )

pub walk_kids-returns-clause-read : goal.walk_kids-returns-clause-read
unfolding reached
walk_kids-returns-clause-read t c =
    let a = c.args in
    let s = a.source.now.s.now in
    let l = c.loop in
    rw l.invariant.3
    (turn_end (desc a.source.now.limit a.depth s) s a.tag _ l.counter l.past l.self.t l.self.n _ l.self.text.now l.self.nodes.now c.loop-test.false l.invariant.1 l.invariant.2)
