use mathlib.Core.Path.{refl}
use Rattle.desc.proofs.NodeFits.{fits}
use Rattle.desc.proofs.write.WriterSink.row.Goals as goal

pub whole_row-requires : goal.whole_row-requires
whole_row-requires c = (fits _ _ _ (c.requires refl)).inside
