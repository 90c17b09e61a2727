use mathlib.Core.Path.{sym, ◌∙◌, ap}
use borrow.Author.Tests.{le-ltb}
use Rattle.std.proofs.lemmas.Result.{err_from_is_err_and}
use Rattle.protocol.specs.Fetch.{read_fetch, lay_fetch}
use Rattle.protocol.specs.Inner.Loading.{mem, laid_as}
use Rattle.protocol.specs.declared.message.Message.TheVariants as Msg
use Rattle.protocol.specs.declared.message.RowKind.TheVariants as K
use Rattle.protocol.proofs.MessageFields.{fetch_read}
use Rattle.protocol.proofs.MessageReads.{laid_refused, laid_read}
use Rattle.protocol.proofs.WholeLaws.{ended_refused, ended_read}
use Rattle.protocol.proofs.RowMessages.{rows_went, no_rows}
use Rattle.protocol.proofs.read.read_fetch.Goals as goal

pub returns-in_err-end : goal.returns-in_err-end
unfolding read_fetch
returns-in_err-end c =
    let p = err_from_is_err_and c.from_residual-in_err-end.result c.from_residual-in_err-end.ensures.1 in
    let n = no_rows K.Pair _ _ _ _ _ _ c.read_rows.ensures.1 c.in_err-end.was in
    rw (p.1, p.2) (
      c.read_rows.ensures.0,
      laid_refused _ _ (rw ((sym c.read_digest.ensures ∙ c.in_ok-digest.was), (sym c.get_u64.ensures ∙ c.in_ok-count.was), le-ltb _ _ c.if-count-gt-MAX_FETCH.false, n)),
    )

pub returns-in_err-at_end : goal.returns-in_err-at_end
unfolding read_fetch
returns-in_err-at_end c =
    let s = c.args.s.now in
    let p = err_from_is_err_and c.from_residual-in_err-at_end.result c.from_residual-in_err-at_end.ensures.1 in
    let w = rows_went K.Pair _ _ _ _ _ _ c.read_rows.ensures.1 c.in_ok-end.was in
    let f = fetch_read s (sym c.read_digest.ensures ∙ c.in_ok-digest.was) (sym c.get_u64.ensures ∙ c.in_ok-count.was) c.if-count-gt-MAX_FETCH.false w.is in
    rw (p.1, p.2) (c.read_rows.ensures.0, laid_refused _ _ (ap (laid_as lay_fetch) (ended_refused s f c.at_end.ensures c.in_err-at_end.was)))

pub returns : goal.returns
unfolding read_fetch lay_fetch
returns c =
    let s = c.args.s.now in
    let m = mem c.args.memory.now in
    let w = rows_went K.Pair _ _ _ m _ _ c.read_rows.ensures.1 c.in_ok-end.was in
    let f = fetch_read s (sym c.read_digest.ensures ∙ c.in_ok-digest.was) (sym c.get_u64.ensures ∙ c.in_ok-count.was) c.if-count-gt-MAX_FETCH.false w.is in (
      c.read_rows.ensures.0,
      laid_read (ap (laid_as lay_fetch) (ended_read s f c.at_end.ensures c.in_ok-at_end.was)) m _ (ap (Msg.Fetch c.in_ok-digest.digest) w.counted) w.left,
    )
