use mathlib.Core.Path.{sym, ◌∙◌, ap}
use Rattle.std.proofs.lemmas.Result.{err_from_is_err_and}
use Rattle.protocol.specs.Inner.Loading.{mem, laid_as}
use Rattle.protocol.specs.Types.{read_types, lay_types}
use Rattle.protocol.specs.declared.message.Message.TheVariants as Msg
use Rattle.protocol.specs.declared.message.RowKind.TheVariants as K
use Rattle.protocol.proofs.MessageFields.{types_read}
use Rattle.protocol.proofs.MessageReads.{laid_refused, laid_read}
use Rattle.protocol.proofs.RowMessages.{rows_went, no_rows}
use Rattle.protocol.proofs.read.read_types.Goals as goal

pub returns-in_err-read_rows : goal.returns-in_err-read_rows
unfolding read_types
returns-in_err-read_rows c =
    let p = err_from_is_err_and c.from_residual-in_err-read_rows.result c.from_residual-in_err-read_rows.ensures.1 in
    let n = no_rows K.Predicate _ _ _ (mem c.args.memory.now) _ _ c.read_rows.ensures.1 c.in_err-read_rows.was in
    rw (p.1, p.2) (c.read_rows.ensures.0, laid_refused _ _ (rw ((sym c.get_u64.ensures ∙ c.in_ok-count.was), n)))

pub returns : goal.returns
unfolding lay_types
returns c =
    let s = c.args.s.now in
    let m = mem c.args.memory.now in
    let w = rows_went K.Predicate _ _ _ m _ _ c.read_rows.ensures.1 c.in_ok-read_rows.was in (
      c.read_rows.ensures.0,
      laid_read (ap (laid_as lay_types) (types_read s m.limit (sym c.get_u64.ensures ∙ c.in_ok-count.was) w.is)) m _ (ap Msg.Types w.counted) w.left,
    )
