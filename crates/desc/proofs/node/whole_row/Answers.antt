use mathlib.Core.Path.{ap, ◌∙◌}
use mathlib.Core.List.{List, []}
use Prim.Native.Nat.{ℕ}
use lib.ListN.{get_or}
use Rattle.desc.proofs.NodeRows.{row_is}
use Rattle.desc.proofs.node.whole_row.Goals as goal

pub returns : goal.returns
returns c = ap (λ (l : List (List ℕ)). get_or l c.args.n []) c.as_chunks.ensures.front ∙ row_is c.args.nodes.now c.args.n c.requires
