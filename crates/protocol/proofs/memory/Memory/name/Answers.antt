use Rattle.varint.specs.Texts.{get_name}
use Rattle.varint.proofs.Agains.{again_found, name_ends}
use Rattle.protocol.proofs.TextsRead.{ahead}
use Rattle.protocol.proofs.memory.Memory.name.Goals.{then-self, else-self}
use Rattle.protocol.proofs.memory.Memory.name.Goals as goal

pub find_name-found-requires : goal.find_name-found-requires
find_name-found-requires c = again_found c.args.s.now (get_name c.args.s.now c.args.at) c.requires.again c.if-self.false

pub keep-requires : goal.keep-requires
keep-requires c =
    let s = c.args.s.now in
    let h = ahead s c.args.at _ (get_name s c.args.at) (name_ends s c.args.at) c.requires.before in
    elim c.if-self.branch [
      | then-self w ↦ rw (w.found-is, w.take_name-found.ensures) h
      | else-self w ↦ rw (w.found-is, w.find_name-found.ensures) h
    ]
