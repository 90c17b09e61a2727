use mathlib.Core.Path.{sym, ◌∙◌}
use Rattle.varint.proofs.ReadLaws.{get_ends}
use Rattle.varint.proofs.text.skim_str.Goals as goal

pub span_of-requires : goal.span_of-requires
span_of-requires c = (rw (sym c.get_u64.ensures ∙ c.in_ok-n.was) at (get_ends c.args.s.now c.args.at)).1
