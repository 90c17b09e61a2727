use mathlib.Core.Path.{refl, sym, ◌∙◌}
use mathlib.Core.List.{[], ◌∷◌}
use lib.ListN.{length}
use borrow.Author.Rules.{rules}
use Rattle.protocol.specs.Inner.Loading.{mem, past}
use Rattle.protocol.specs.Startup.{lay_claim}
use Rattle.protocol.proofs.RowLoads.{row_and_text}
use Rattle.protocol.proofs.Loads.{loads}
use Rattle.protocol.proofs.RowReads.{claim_read}
use Rattle.protocol.proofs.TextsRead.{name_kept, name_leaves}
use Rattle.protocol.proofs.rows.ClaimReadRow.read.Goals as goal

pub store_three-requires : goal.store_three-requires
store_three-requires c =
    let w = name_leaves c.args.s.now c.args.at _ _ _ c.name.ensures.1 c.in_ok-name.was c.requires.before.1 in
    search rules

pub returns : goal.returns
returns c =
    let a = c.args in
    let m = mem a.memory.now in
    let w = name_kept a.s.now a.at m _ _ c.name.ensures.1 c.in_ok-name.was in
    let h = c.name.ensures.0 in
    let k = c.store_three.ensures.0 in (
      (k.0 ∙ h.0, k.1 ∙ h.1, k.2 ∙ h.2),
      loads past lay_claim m _ (claim_read a.s.now a.at w.is (sym c.get_u64.ensures ∙ c.in_ok-fingerprint.was)) refl
          (row_and_text (λ t n. t ∷ length w.value ∷ c.in_ok-fingerprint.fingerprint ∷ []) w.value m (c.in_ok-name.name.start ∷ c.in_ok-name.name.len ∷ c.in_ok-fingerprint.fingerprint ∷ []) w.left c.store_three.ensures.1 (λ i. w.place i ∷ w.long i ∷ c.in_ok-fingerprint.fingerprint ∷ [])),
    )
