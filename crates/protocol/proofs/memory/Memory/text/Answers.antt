use Rattle.varint.specs.Texts.{get_text}
use Rattle.varint.proofs.Agains.{again_found, text_ends}
use Rattle.protocol.proofs.TextsRead.{ahead}
use Rattle.protocol.proofs.memory.Memory.text.Goals.{then-self, else-self}
use Rattle.protocol.proofs.memory.Memory.text.Goals as goal

pub find_str-found-requires : goal.find_str-found-requires
find_str-found-requires c = again_found c.args.s.now (get_text c.args.s.now c.args.at) c.requires.again c.if-self.false

pub keep-requires : goal.keep-requires
keep-requires c =
    let s = c.args.s.now in
    let h = ahead s c.args.at _ (get_text s c.args.at) (text_ends s c.args.at) c.requires.before in
    elim c.if-self.branch [
      | then-self w ↦ rw (w.found-is, w.get_str-found.ensures) h
      | else-self w ↦ rw (w.found-is, w.find_str-found.ensures) h
    ]
