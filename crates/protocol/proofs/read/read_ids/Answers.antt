use mathlib.Core.Path.{sym, ◌∙◌, ap}
use Rattle.protocol.specs.Ids.{lay_ids}
use Rattle.protocol.specs.Inner.Loading.{mem, laid_as}
use Rattle.protocol.specs.declared.message.Message.TheVariants as Msg
use Rattle.protocol.specs.declared.message.RowKind.TheVariants as K
use Rattle.protocol.proofs.MessageFields.{ids_read}
use Rattle.protocol.proofs.MessageReads.{laid_read}
use Rattle.protocol.proofs.RowMessages.{rows_went}
use Rattle.protocol.proofs.read.read_ids.Goals as goal

pub returns : goal.returns
unfolding lay_ids
returns c =
    let s = c.args.s.now in
    let m = mem c.args.memory.now in
    let w = rows_went K.Id _ _ _ m _ _ c.run_ids.ensures.1 c.in_ok-run_ids.was in (
      c.run_ids.ensures.0,
      laid_read (ap (laid_as lay_ids) (ids_read s (sym c.get_u64.ensures ∙ c.in_ok-count.was) w.is)) m _ (ap Msg.Ids w.counted) w.left,
    )
