use Rattle.desc.proofs.EmitPens.{at_root}
use borrow.Author.Rules.{rules}
use Rattle.desc.proofs.EmitPut.{put_told}
use Rattle.desc.proofs.inner.put_desc.Goals as goal
use mathlib.Core.Path.{refl}

pub emit-requires : goal.emit-requires
emit-requires c _ = c.requires

pub returns : goal.returns
returns c =
    let done = put_told _ _ _ _ _ c.requires (at_root _ _ _ _ _ c.emit.ensures.written refl) in
    let kept = c.emit.ensures.kept in
    search rules
