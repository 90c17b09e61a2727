use mathlib.Core.Path.{sym, ap, ◌∙◌}
use Prim.Native.Nat.{◌+◌}
use native.Mathlib.Omega.{arith}
use Rattle.varint.specs.Outs.{declared}
use Rattle.desc.specs.Emitting.{Pen, put_number, put_bytes}
use Rattle.protocol_write.proofs.TypeSizes.{types_told}
use Rattle.protocol_write.specs.Inner.Writing.{put_counted}
use Rattle.protocol_write.proofs.checks.check_types.Goals as goal

pub returns : goal.returns
unfolding put_counted put_number put_bytes
returns c =
    let rows = c.in_ok-rows.ensures in
    let place = ap (λ (s : Pen). declared (s.place + c.in_ok-size.size)) c.varint.ensures.2 in
    types_told rows.1 _ _ _ _ _ _ (omega arith) rows.0 (sym c.check_numbers.ensures ∙ c.in_ok-check_numbers.was) (sym c.size_types.ensures ∙ c.in_ok-size.was)
    (sym c.check_texts.ensures ∙ c.in_ok-check_texts.was)
    (c.saturating_add.ensures ∙ place)
