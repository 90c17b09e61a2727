use Prim.Native.Nat.{◌+◌, ◌≤◌}
use mathlib.Core.Path.{sym, ◌∙◌}
use lib.ListN.{length}
use borrow.Author.Tests.{ltb-true, ltb-false}
use Rattle.desc.proofs.TableCells.{name_past, name_good, name_bad}
use Rattle.desc.proofs.write.check_name.Goals as goal

pub returns-then-is_past : goal.returns-then-is_past
returns-then-is_past c = name_past _ _ _ (ltb-true _ _ (sym c.is_past.ensures ∙ c.if-is_past.true))

pub returns-then-not-is_utf8 : goal.returns-then-not-is_utf8
returns-then-not-is_utf8 c =
    let h : c.args.name.start + c.args.name.len ≤ length c.args.text.now = ltb-false _ _ (sym c.is_past.ensures ∙ c.if-is_past.false) in
    name_bad _ _ _ h c.is_utf8.ensures c.if-not-is_utf8.true

pub returns : goal.returns
returns c =
    let h : c.args.name.start + c.args.name.len ≤ length c.args.text.now = ltb-false _ _ (sym c.is_past.ensures ∙ c.if-is_past.false) in
    name_good _ _ _ h c.is_utf8.ensures c.if-not-is_utf8.false
