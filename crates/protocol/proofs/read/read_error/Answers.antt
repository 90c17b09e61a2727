use mathlib.Core.Path.{sym, ◌∙◌, ap}
use Rattle.protocol.specs.Inner.Loading.{mem, laid_as}
use Rattle.protocol.specs.Codes.{error_of}
use Rattle.protocol.specs.Error.{lay_error}
use Rattle.protocol.specs.declared.message.Message.TheVariants as Msg
use Rattle.protocol.proofs.Knows.{known_is}
use Rattle.protocol.proofs.MessageFields.{error_read}
use Rattle.protocol.proofs.MessageReads.{laid_read}
use Rattle.protocol.proofs.TextsRead.{text_kept, kept_span}
use Rattle.protocol.proofs.read.read_error.Goals as goal

pub returns : goal.returns
unfolding lay_error
returns c =
    let s = c.args.s.now in
    let m = c.args.memory.now in
    let k = sym (known_is error_of _ _ c.read_known.ensures) ∙ c.in_ok-code.was in
    let w = text_kept s _ (mem m) _ _ c.text.ensures.1 c.in_ok-text.was in (
      c.text.ensures.0,
      laid_read (ap (laid_as lay_error) (error_read s k w.is)) (mem m) _ (ap (Msg.Error c.in_ok-code.code) (kept_span w c.requires.empty.0)) (w.left),
    )
