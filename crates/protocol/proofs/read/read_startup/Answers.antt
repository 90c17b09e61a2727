use mathlib.Core.Path.{sym, ◌∙◌, ap}
use native.Mathlib.Omega.{arith}
use Rattle.std.proofs.lemmas.Result.{err_from_is_err_and}
use Rattle.varint.proofs.FormatParts.{num_inside}
use Rattle.protocol.specs.Codes.{mode_of}
use Rattle.protocol.specs.Inner.Loading.{Mem, mem, laid_as}
use Rattle.protocol.specs.Startup.{read_startup, lay_startup}
use Rattle.protocol.specs.declared.message.RowKind.TheVariants as K
use Rattle.protocol.proofs.Knows.{known_is}
use Rattle.protocol.proofs.MessageReads.{laid_refused}
use Rattle.protocol.proofs.WholeLaws.{ended_refused, ended_read}
use Rattle.protocol.proofs.FieldEnds.{mode_ends}
use Rattle.protocol.proofs.RowMessages.{rows_went, no_rows}
use Rattle.protocol.proofs.StartupReads.{startup_fields, startup_into}
use Rattle.protocol.proofs.WholeLaws.{version_refused, version_wide, version_read}
use Rattle.protocol.proofs.TextsRead.{name_kept}
use Rattle.protocol.proofs.read.read_startup.Goals as goal

pub read_rows-requires-clause-before : goal.read_rows-requires-clause-before
read_rows-requires-clause-before c =
    let s = c.args.s.now in
    let w = name_kept s _ (mem c.args.memory.now) _ _ c.name.ensures.1 c.in_ok-database.was in
    let w₀ = w.on in
    let w₁ = w.long in
    let t = ap (λ (y : Mem). y.t) w.left in
    let r = ap (λ (y : Mem). y.r) w.left in
    let n = ap (λ (y : Mem). y.n) w.left in
    let i = mode_ends.ends s _ _ _ w.inside (sym (known_is mode_of _ _ c.read_known.ensures) ∙ c.in_ok-mode.was) in
    let i₀ = i.0 in
    let j = num_inside s _ _ _ (sym c.get_u64-2.ensures ∙ c.in_ok-schema_fingerprint.was) in
    let j₀ = j.0 in
    let k = num_inside s _ _ _ (sym c.get_u64-3.ensures ∙ c.in_ok-claims.was) in
    let k₀ = k.0 in
    let z₀ = c.requires.empty.0 in
    let z₁ = c.requires.empty.1 in
    let z₂ = c.requires.empty.2 in
    ((omega arith, k.1), omega arith)

pub returns-in_err-end : goal.returns-in_err-end
unfolding read_startup
returns-in_err-end c =
    let s = c.args.s.now in
    let m = mem c.args.memory.now in
    let p = err_from_is_err_and c.from_residual-in_err-end.result c.from_residual-in_err-end.ensures.1 in
    let w = name_kept s _ m _ _ c.name.ensures.1 c.in_ok-database.was in
    let n = no_rows K.Claim _ _ _ _ _ _ c.read_rows.ensures.1 c.in_err-end.was in
    let h = c.name.ensures.0 in
    let k = c.read_rows.ensures.0 in
    rw (p.1, p.2) (
      (k.0 ∙ h.0, k.1 ∙ h.1, k.2 ∙ h.2),
      laid_refused _ _
          (rw ((sym c.get_u64.ensures ∙ c.in_ok-number.was), w.is, (sym (known_is mode_of _ _ c.read_known.ensures) ∙ c.in_ok-mode.was), (sym c.get_u64-2.ensures ∙ c.in_ok-schema_fingerprint.was), (sym c.get_u64-3.ensures ∙ c.in_ok-claims.was), n)),
    )

pub returns-in_err-at_end : goal.returns-in_err-at_end
unfolding read_startup
returns-in_err-at_end c =
    let s = c.args.s.now in
    let m = mem c.args.memory.now in
    let p = err_from_is_err_and c.from_residual-in_err-at_end.result c.from_residual-in_err-at_end.ensures.1 in
    let w = name_kept s _ m _ _ c.name.ensures.1 c.in_ok-database.was in
    let v = rows_went K.Claim _ _ _ _ _ _ c.read_rows.ensures.1 c.in_ok-end.was in
    let f = startup_fields s m w v (sym c.get_u64.ensures ∙ c.in_ok-number.was) (sym (known_is mode_of _ _ c.read_known.ensures) ∙ c.in_ok-mode.was)
    (sym c.get_u64-2.ensures ∙ c.in_ok-schema_fingerprint.was) (sym c.get_u64-3.ensures ∙ c.in_ok-claims.was) in
    let h = c.name.ensures.0 in
    let k = c.read_rows.ensures.0 in
    rw (p.1, p.2)
    ((k.0 ∙ h.0, k.1 ∙ h.1, k.2 ∙ h.2), laid_refused _ _ (ap (laid_as lay_startup) (version_refused (ended_refused s f c.at_end.ensures c.in_err-at_end.was))))

pub returns-in_default : goal.returns-in_default
unfolding read_startup
returns-in_default c =
    let s = c.args.s.now in
    let m = mem c.args.memory.now in
    let w = name_kept s _ m _ _ c.name.ensures.1 c.in_ok-database.was in
    let v = rows_went K.Claim _ _ _ _ _ _ c.read_rows.ensures.1 c.in_ok-end.was in
    let f = startup_fields s m w v (sym c.get_u64.ensures ∙ c.in_ok-number.was) (sym (known_is mode_of _ _ c.read_known.ensures) ∙ c.in_ok-mode.was)
    (sym c.get_u64-2.ensures ∙ c.in_ok-schema_fingerprint.was) (sym c.get_u64-3.ensures ∙ c.in_ok-claims.was) in
    let h = c.name.ensures.0 in
    let k = c.read_rows.ensures.0 in (
      (k.0 ∙ h.0, k.1 ∙ h.1, k.2 ∙ h.2),
      laid_refused _ _ (ap (laid_as lay_startup) (version_wide (ended_read s f c.at_end.ensures c.in_ok-at_end.was) c.in_default.ensures)),
    )

pub returns : goal.returns
unfolding read_startup
returns c =
    let s = c.args.s.now in
    let m = mem c.args.memory.now in
    let w = name_kept s _ m _ _ c.name.ensures.1 c.in_ok-database.was in
    let v = rows_went K.Claim _ _ _ _ _ _ c.read_rows.ensures.1 c.in_ok-end.was in
    let f = startup_fields s m w v (sym c.get_u64.ensures ∙ c.in_ok-number.was) (sym (known_is mode_of _ _ c.read_known.ensures) ∙ c.in_ok-mode.was)
    (sym c.get_u64-2.ensures ∙ c.in_ok-schema_fingerprint.was) (sym c.get_u64-3.ensures ∙ c.in_ok-claims.was) in
    let h = c.name.ensures.0 in
    let k = c.read_rows.ensures.0 in (
      (k.0 ∙ h.0, k.1 ∙ h.1, k.2 ∙ h.2),
      startup_into s m w v (version_read (ended_read s f c.at_end.ensures c.in_ok-at_end.was) c.in-Ok.ensures.0) c.requires.empty.0 c.in-Ok.ensures.1,
    )
