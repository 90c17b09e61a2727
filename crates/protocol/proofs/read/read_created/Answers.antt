use mathlib.Core.Path.{ap}
use Rattle.protocol.specs.Inner.Loading.{mem, laid_as}
use Rattle.protocol.specs.Reply.{lay_reply}
use Rattle.protocol.specs.declared.message.ControlReply.TheVariants as R
use Rattle.protocol.specs.declared.message.Message.TheVariants as Msg
use Rattle.varint.specs.declared.text.Span.{Span}
use Rattle.protocol.proofs.MessageFields.{created_read}
use Rattle.protocol.proofs.MessageReads.{laid_read}
use Rattle.protocol.proofs.WholeLaws.{ended_read}
use Rattle.protocol.proofs.TextsRead.{name_kept, kept_span}
use Rattle.protocol.proofs.read.read_created.Goals as goal

pub returns : goal.returns
unfolding lay_reply
returns c =
    let s = c.args.s.now in
    let m = c.args.memory.now in
    let w = name_kept s _ (mem m) _ _ c.name.ensures.1 c.in_ok-instance.was in (
      c.name.ensures.0,
      laid_read (ap (laid_as lay_reply) (ended_read s (created_read s c.args.at w.is) c.at_end.ensures c.in_ok-at_end.was)) (mem m) _
          (ap (λ (x : Span). Msg.Reply (R.Created x)) (kept_span w c.requires.empty.0)) (w.left),
    )
