use mathlib.Core.Path.{refl, sym, ◌∙◌, ap}
use mathlib.Core.List.{List, [], ◌∷◌}
use Prim.Native.Nat.{ℕ}
use Rattle.protocol.specs.Fields.{bit}
use Rattle.varint.proofs.FormatParts.{num_inside}
use lib.ListN.{length}
use borrow.Author.Rules.{rules}
use Rattle.protocol.specs.Inner.Loading.{Mem, mem, past}
use Rattle.protocol.specs.Profile.{lay_step}
use Rattle.protocol.proofs.RowLoads.{row_and_text, more_numbers}
use Rattle.protocol.proofs.Loads.{loads}
use Rattle.protocol.proofs.RowReads.{step_read}
use Rattle.protocol.proofs.TextsRead.{name_kept, name_leaves}
use Rattle.protocol.proofs.rows.StepReadRow.read.Goals as goal

pub store_three-requires : goal.store_three-requires
store_three-requires c =
    let w = name_leaves c.args.s.now c.args.at _ _ _ c.name.ensures.1 c.in_ok-name.was c.requires.before.1 in
    search rules

pub store_one-requires : goal.store_one-requires
store_one-requires c =
    let w = name_leaves c.args.s.now c.args.at _ _ _ c.name.ensures.1 c.in_ok-name.was c.requires.before.1 in
    let v = num_inside c.args.s.now _ _ _ (sym c.get_u64.ensures ∙ c.in_ok-examined.was) in
    let r₁ = ap (λ (y : Mem). y.r) c.store_three.ensures.1 in
    search rules

pub returns : goal.returns
returns c =
    let a = c.args in
    let m = mem a.memory.now in
    let w = name_kept a.s.now a.at m _ _ c.name.ensures.1 c.in_ok-name.was in
    let h = c.name.ensures.0 in
    let k = c.store_three.ensures.0 in
    let l = c.store_one.ensures.0 in
    let row : ℕ → ℕ → List ℕ = λ t n. t ∷ length w.value ∷ c.in_ok-examined.examined ∷ bit c.in_ok-full.full ∷ [] in
    let four = more_numbers (c.in_ok-name.name.start ∷ c.in_ok-name.name.len ∷ c.in_ok-examined.examined ∷ []) (c.from.result ∷ []) _ c.store_three.ensures.1 c.store_one.ensures.1 in (
      (l.0 ∙ k.0 ∙ h.0, l.1 ∙ k.1 ∙ h.1, l.2 ∙ k.2 ∙ h.2),
      loads past lay_step m _ (step_read a.s.now a.at w.is (sym c.get_u64.ensures ∙ c.in_ok-examined.was) (sym c.read_flag.ensures ∙ c.in_ok-full.was)) refl
          (row_and_text row w.value m (c.in_ok-name.name.start ∷ c.in_ok-name.name.len ∷ c.in_ok-examined.examined ∷ c.from.result ∷ []) w.left four
          (λ i. w.place i ∷ w.long i ∷ c.in_ok-examined.examined ∷ c.from.ensures i ∷ [])),
    )
