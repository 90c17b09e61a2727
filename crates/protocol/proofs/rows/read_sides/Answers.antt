use mathlib.Core.Path.{sym, ◌∙◌, ap}
use borrow.Author.Rules.{rules}
use native.Mathlib.Omega.{arith}
use Rattle.protocol.specs.Pieces.{tree}
use Rattle.protocol.specs.Inner.Loading.{Mem, mem}
use Rattle.protocol.proofs.FieldEnds.{descriptor_ends, wide_flag_inside}
use Rattle.protocol.proofs.Loads.{went}
use Rattle.protocol.proofs.TypeLoads.{sides_read, sides_value}
use Rattle.protocol.proofs.rows.read_sides.Goals as goal

pub desc-requires-clause-before : goal.desc-requires-clause-before
desc-requires-clause-before c =
    let w = wide_flag_inside c.args.s.now c.args.at _ _ (sym c.read_wide_flag.ensures ∙ c.in_ok-is_virtual.was) in
    let w₀ = w.0 in
    let w₁ = w.1 in
    (omega arith, omega arith)

pub store_three-requires : goal.store_three-requires
store_three-requires c =
    let w = wide_flag_inside c.args.s.now c.args.at _ _ (sym c.read_wide_flag.ensures ∙ c.in_ok-is_virtual.was) in
    let r = ap (λ (y : Mem). y.r) (went tree _ (mem c.args.memory.now) _ _ c.desc.ensures.1 c.in_ok-q.was).left in
    search rules

pub read_value-requires : goal.read_value-requires
read_value-requires c =
    let w = wide_flag_inside c.args.s.now _ _ _ (sym c.read_wide_flag-2.ensures ∙ c.in_ok-has.was) in
    let w₀ = w.0 in
    let w₁ = w.1 in
    let e = c.store_three.ensures.1 in
    let t = ap (λ (y : Mem). y.t) e in
    let n = ap (λ (y : Mem). y.n) e in
    let d = went tree _ (mem c.args.memory.now) _ _ c.desc.ensures.1 c.in_ok-q.was in
    let v = wide_flag_inside c.args.s.now c.args.at _ _ (sym c.read_wide_flag.ensures ∙ c.in_ok-is_virtual.was) in
    let v₀ = v.0 in
    let b = (descriptor_ends c.args.memory.now.limit).ends c.args.s.now _ d.value _ v.1 d.is in
    let b₀ = b.0 in
    let t₀ = ap (λ (y : Mem). y.t) d.left in
    let n₀ = ap (λ (y : Mem). y.n) d.left in
    let r = c.requires.before.0.0 in
    record {
      before = (omega arith, omega arith);
      again =
          let g = sides_value _ c.args.s.now c.args.at (sym c.read_wide_flag.ensures ∙ c.in_ok-is_virtual.was) d.is (sym c.read_wide_flag-2.ensures ∙ c.in_ok-has.was) c.requires.again in
          rw (ap (λ (y : Mem). y.check) e ∙ ap (λ (y : Mem). y.check) d.left, ap (λ (y : Mem). y.limit) e ∙ ap (λ (y : Mem). y.limit) d.left) g;
    }

pub returns : goal.returns
returns c =
    let a = c.args in
    let d = went tree _ (mem a.memory.now) _ _ c.desc.ensures.1 c.in_ok-q.was in
    let h = c.desc.ensures.0 in
    let k = c.store_three.ensures.0 in
    let l = c.read_value.ensures.0 in (
      (l.0 ∙ k.0 ∙ h.0, l.1 ∙ k.1 ∙ h.1, l.2 ∙ k.2 ∙ h.2),
      sides_read a.s.now a.at (mem a.memory.now) (sym c.read_wide_flag.ensures ∙ c.in_ok-is_virtual.was) d.is (sym c.read_wide_flag-2.ensures ∙ c.in_ok-has.was) _ _ _ d.left c.store_three.ensures.1
          c.from.ensures c.from-2.ensures c.read_value.ensures.1,
    )
