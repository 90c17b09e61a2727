use mathlib.Core.Path.{sym, ◌∙◌}
use Rattle.protocol_write.proofs.TypeSizes.{size_elsewhere, size_keyless, size_bare, size_valueless, size_valued}
use Rattle.protocol_write.proofs.checks.size_type.Goals as goal

pub returns-then-row-n : goal.returns-then-row-n
returns-then-row-n c = size_elsewhere _ _ _ _ c.if-row-n.true

pub returns-in_err-key : goal.returns-in_err-key
returns-in_err-key c = rw c.from_residual.ensures (size_keyless _ _ _ _ c.if-row-n.false (sym c.in_err-key.was ∙ c.size_desc.ensures))

pub returns-then-row-eq0 : goal.returns-then-row-eq0
returns-then-row-eq0 c =
    size_bare _ _ _ _ c.if-row-n.false (sym c.in_ok-key.was ∙ c.size_desc.ensures) _ _ c.fields_size.ensures c.saturating_add-place.ensures c.if-row-eq0.true

pub returns-in_err-value : goal.returns-in_err-value
returns-in_err-value c =
    rw c.from_residual-in_err-value.ensures
    (size_valueless _ _ _ _ c.if-row-n.false (sym c.in_ok-key.was ∙ c.size_desc.ensures) _ _ c.fields_size.ensures c.saturating_add-place.ensures c.if-row-eq0.false (sym c.in_err-value.was ∙ c.size_desc-2.ensures))

pub returns : goal.returns
returns c =
    size_valued _ _ _ _ c.if-row-n.false (sym c.in_ok-key.was ∙ c.size_desc.ensures) _ _ c.fields_size.ensures c.saturating_add-place.ensures c.if-row-eq0.false
    (sym c.in_ok-value.was ∙ c.size_desc-2.ensures)
    _
    c.saturating_add.ensures
