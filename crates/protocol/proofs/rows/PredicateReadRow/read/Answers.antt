use mathlib.Core.Path.{sym, ◌∙◌, ap}
use borrow.Author.Rules.{rules}
use native.Mathlib.Omega.{arith}
use Rattle.varint.proofs.FormatParts.{num_inside}
use Rattle.protocol.specs.Inner.Loading.{Mem, mem}
use Rattle.protocol.proofs.TextsRead.{name_kept}
use Rattle.protocol.proofs.TypeLoads.{type_read}
use Rattle.protocol.proofs.rows.PredicateReadRow.read.Goals as goal

pub name-requires-clause-before : goal.name-requires-clause-before
name-requires-clause-before c =
    let v = num_inside c.args.s.now c.args.at _ _ (sym c.get_u64.ensures ∙ c.in_ok-id.was) in
    let v₀ = v.0 in
    let h₀ = c.requires.before.0.0 in
    omega arith

pub store_three-requires : goal.store_three-requires
store_three-requires c =
    let v = num_inside c.args.s.now c.args.at _ _ (sym c.get_u64.ensures ∙ c.in_ok-id.was) in
    let w = name_kept c.args.s.now _ (mem c.args.memory.now) _ _ c.name.ensures.1 c.in_ok-name.was in
    let r = ap (λ (y : Mem). y.r) w.left in
    search rules

pub read_sides-requires-clause-before : goal.read_sides-requires-clause-before
read_sides-requires-clause-before c =
    let a = c.args in
    let v = num_inside a.s.now a.at _ _ (sym c.get_u64.ensures ∙ c.in_ok-id.was) in
    let v₀ = v.0 in
    let v₁ = v.1 in
    let w = name_kept a.s.now _ (mem a.memory.now) _ _ c.name.ensures.1 c.in_ok-name.was in
    let w₀ = w.on in
    let w₁ = w.inside in
    let w₂ = w.long in
    let t = ap (λ (y : Mem). y.t) c.store_three.ensures.1 in
    let r = ap (λ (y : Mem). y.r) c.store_three.ensures.1 in
    let n = ap (λ (y : Mem). y.n) c.store_three.ensures.1 in
    let t₁ = ap (λ (y : Mem). y.t) w.left in
    let r₁ = ap (λ (y : Mem). y.r) w.left in
    let n₁ = ap (λ (y : Mem). y.n) w.left in
    let h₀ = c.requires.before.0.0 in
    let h₁ = c.requires.before.1 in
    ((omega arith, omega arith), omega arith)

pub returns : goal.returns
returns c =
    let a = c.args in
    let w = name_kept a.s.now _ (mem a.memory.now) _ _ c.name.ensures.1 c.in_ok-name.was in
    let h = c.name.ensures.0 in
    let k = c.store_three.ensures.0 in
    let l = c.read_sides.ensures.0 in (
      (l.0 ∙ k.0 ∙ h.0, l.1 ∙ k.1 ∙ h.1, l.2 ∙ k.2 ∙ h.2),
      type_read a.s.now a.at (mem a.memory.now) (sym c.get_u64.ensures ∙ c.in_ok-id.was) c.if-id-gt-MAX_U32.false w.is _ _ _ w.left c.store_three.ensures.1 w.place w.long c.read_sides.ensures.1,
    )
