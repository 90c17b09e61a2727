use mathlib.Core.Path.{sym, ◌∙◌}
use native.Mathlib.Omega.{arith}
use Rattle.varint.proofs.FormatParts.{num_inside}
use Rattle.desc.proofs.head.read_head.Goals as goal

pub read_count-requires : goal.read_count-requires
read_count-requires c =
    let i = num_inside _ _ _ _ (sym c.get_u64.ensures ∙ c.in_ok-tag.was) in
    let i₀ = i.0 in
    (omega arith, i.1)
