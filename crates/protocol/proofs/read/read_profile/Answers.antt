use mathlib.Core.Path.{sym, ◌∙◌, ap}
use borrow.Author.Tests.{le-ltb}
use Rattle.std.proofs.lemmas.Result.{err_from_is_err_and}
use Rattle.protocol.specs.Inner.Loading.{mem, laid_as}
use Rattle.protocol.specs.Profile.{read_profile, lay_profile}
use Rattle.protocol.specs.declared.message.Message.TheVariants as Msg
use Rattle.protocol.specs.declared.message.RowKind.TheVariants as K
use Rattle.protocol.proofs.MessageFields.{profile_read}
use Rattle.protocol.proofs.MessageReads.{laid_refused, laid_read}
use Rattle.protocol.proofs.WholeLaws.{ended_refused, ended_read}
use Rattle.protocol.proofs.RowMessages.{rows_went, no_rows}
use Rattle.protocol.proofs.read.read_profile.Goals as goal

pub returns-in_err-end : goal.returns-in_err-end
unfolding read_profile
returns-in_err-end c =
    let p = err_from_is_err_and c.from_residual-in_err-end.result c.from_residual-in_err-end.ensures.1 in
    let n = no_rows K.Step _ _ _ _ _ _ c.read_rows.ensures.1 c.in_err-end.was in
    rw (p.1, p.2) (c.read_rows.ensures.0, laid_refused _ _ (rw ((sym c.get_u64.ensures ∙ c.in_ok-steps.was), le-ltb _ _ c.if-length-steps.false, n)))

pub returns-in_err-at_end : goal.returns-in_err-at_end
unfolding read_profile
returns-in_err-at_end c =
    let s = c.args.s.now in
    let p = err_from_is_err_and c.from_residual-in_err-at_end.result c.from_residual-in_err-at_end.ensures.1 in
    let w = rows_went K.Step _ _ _ _ _ _ c.read_rows.ensures.1 c.in_ok-end.was in
    rw (p.1, p.2) (
      c.read_rows.ensures.0,
      laid_refused _ _ (ap (laid_as lay_profile) (ended_refused s (profile_read s (sym c.get_u64.ensures ∙ c.in_ok-steps.was) c.if-length-steps.false w.is) c.at_end.ensures c.in_err-at_end.was)),
    )

pub returns : goal.returns
unfolding read_profile lay_profile
returns c =
    let s = c.args.s.now in
    let m = mem c.args.memory.now in
    let w = rows_went K.Step _ _ _ m _ _ c.read_rows.ensures.1 c.in_ok-end.was in (
      c.read_rows.ensures.0,
      laid_read (ap (laid_as lay_profile) (ended_read s (profile_read s (sym c.get_u64.ensures ∙ c.in_ok-steps.was) c.if-length-steps.false w.is) c.at_end.ensures c.in_ok-at_end.was))
          m _ (ap Msg.Profile w.counted) w.left,
    )
