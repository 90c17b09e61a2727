use mathlib.Core.Path.{refl, sym, ◌∙◌, ap}
use native.Mathlib.Omega.{arith}
use Rattle.varint.specs.declared.error.Mismatch.TheVariants as M
use Rattle.varint.specs.declared.text.Span.{Span}
use Rattle.protocol.specs.Codes.{op_of}
use Rattle.protocol.specs.Control.{read_control, lay_control}
use Rattle.protocol.specs.Inner.Loading.{mem, put, laid_as}
use Rattle.protocol.specs.Laying.{span_of}
use Rattle.protocol.specs.Pieces.{words}
use Rattle.protocol.specs.declared.message.Message.TheVariants as Msg
use Rattle.protocol.proofs.FieldEnds.{flag_ends}
use Rattle.protocol.proofs.Knows.{known_is}
use Rattle.protocol.proofs.MessageFields.{control_read}
use Rattle.protocol.proofs.MessageReads.{laid_read}
use Rattle.protocol.proofs.WholeLaws.{ended_read}
use Rattle.protocol.proofs.PieceLaws.{put_join}
use Rattle.protocol.proofs.TextsRead.{name_kept, text_kept, kept_span, kept_t, after_text}
use Rattle.protocol.proofs.read.read_control.Goals as goal

pub text-requires-clause-before : goal.text-requires-clause-before
text-requires-clause-before c =
    let w = name_kept c.args.s.now _ (mem c.args.memory.now) _ _ c.name.ensures.1 c.in_ok-database.was in
    let w₀ = w.on in
    let t = kept_t w in
    let f = (flag_ends M.ControlFlag).ends c.args.s.now _ _ _ w.inside (sym c.read_flag.ensures ∙ c.in_ok-allow_zero_facts.was) in
    let f₀ = f.0 in
    let z = c.requires.empty.0 in
    let k = sym (known_is op_of _ _ c.read_known.ensures) ∙ c.in_ok-op.was in
    omega arith

pub returns : goal.returns
unfolding read_control lay_control
returns c =
    let s = c.args.s.now in
    let m = c.args.memory.now in
    let k = sym (known_is op_of _ _ c.read_known.ensures) ∙ c.in_ok-op.was in
    let w = name_kept s _ (mem m) _ _ c.name.ensures.1 c.in_ok-database.was in
    let v = text_kept s _ _ _ _ c.text.ensures.1 c.in_ok-schema.was in
    let a = w.value in
    let b = v.value in
    let h = c.name.ensures.0 in
    let l = c.text.ensures.0 in (
      (l.0 ∙ h.0, l.1 ∙ h.1, l.2 ∙ h.2),
      laid_read
          (ap (laid_as lay_control) (ended_read s (control_read s k w.is (sym c.read_flag.ensures ∙ c.in_ok-allow_zero_facts.was) v.is) c.at_end.ensures c.in_ok-at_end.was))
          (mem m) _
          (ap (λ (x : Span). Msg.Control c.in_ok-op.op x c.in_ok-allow_zero_facts.allow_zero_facts c.in_ok-schema.schema) (kept_span w c.requires.empty.0)
          ∙ ap (λ (x : Span). Msg.Control c.in_ok-op.op (span_of 0 a) c.in_ok-allow_zero_facts.allow_zero_facts x) (kept_span v (after_text w c.requires.empty.0)))
          (v.left ∙ ap (put (words b)) (w.left) ∙ sym (put_join (words a) (words b) (mem m) (λ t n. refl))),
    )
