use Rattle.desc.proofs.NodeRows.{row_of}
use Rattle.desc.proofs.node.row.Goals as goal

pub returns : goal.returns
returns c = row_of c.args.nodes.now c.args.n _ c.as_chunks.ensures.front c.as_chunks.ensures.front_len c.get.result c.get.ensures.lookup.3
