use mathlib.Core.Path.{sym, ◌∙◌}
use borrow.Author.Rules.{rules}
use Rattle.desc.proofs.HeadLaws.{label_inside}
use Rattle.desc.proofs.Memory.label.Goals as goal

pub overflow_add-self : goal.overflow_add-self
overflow_add-self c =
    let g = c.in_ok-found in
    let f = label_inside _ _ _ g.found.name.start g.found.name.len g.found.discriminant _ (sym c.read_label.ensures ∙ g.was) in
    let f₀ = f.0 in
    let f₁ = f.1 in
    let f₂ = f.2 in
    let b = c.requires.before in
    search rules
