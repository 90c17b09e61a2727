use mathlib.Core.Path.{refl, sym, ◌∙◌, ap}
use Rattle.protocol.specs.Codes.{op_of}
use Rattle.protocol.specs.Inner.Loading.{mem, laid_as}
use Rattle.protocol.specs.Reply.{lay_reply}
use Rattle.protocol.proofs.Knows.{known_is}
use Rattle.protocol.proofs.MessageFields.{reply_on_lem, finished_same}
use Rattle.protocol.proofs.MessageReads.{bare_into, finished_bare, laid_read}
use Rattle.protocol.proofs.WholeLaws.{ended_read}
use Rattle.protocol.proofs.PieceLaws.{put_none}
use Rattle.protocol.proofs.read.read_control_reply.Goals as goal

pub returns-in-Finish : goal.returns-in-Finish
returns-in-Finish c =
    let s = c.args.s.now in
    let m = c.args.memory.now in (
      (refl, refl, refl),
      rw (reply_on_lem s (sym (known_is op_of _ _ c.read_known.ensures) ∙ c.in_ok-op.was), c.in-Finish.is, finished_same s _)
          (bare_into (mem m) _ _ (finished_bare s _) c.read_finished.ensures),
    )

pub returns-in_ok-at_end-in-Remove : goal.returns-in_ok-at_end-in-Remove
unfolding lay_reply
returns-in_ok-at_end-in-Remove c =
    let s = c.args.s.now in
    let m = c.args.memory.now in (
      (refl, refl, refl),
      rw (reply_on_lem s (sym (known_is op_of _ _ c.read_known.ensures) ∙ c.in_ok-op.was), c.in-Remove.is)
          (laid_read (ap (laid_as lay_reply) (ended_read s refl c.at_end.ensures c.in_ok-at_end-in-Remove.was)) (mem m) (mem m) refl (sym (put_none (mem m)))),
    )
