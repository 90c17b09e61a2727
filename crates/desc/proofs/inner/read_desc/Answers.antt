use borrow.Author.Rules.{rules}
use Rattle.desc.proofs.Readings.{reads_checking, reads_storing}
use Rattle.desc.specs.Reading.{desc}
use Rattle.desc.proofs.inner.read_desc.Goals as goal

pub returns-then-check : goal.returns-then-check
returns-then-check c =
    let a = c.args in
    rw c.if-check.true (reads_checking (desc a.limit a.limit a.s.now a.at) a.text.now a.t a.nodes.now a.n _ _ _ _ c.root.ensures.read)

pub returns : goal.returns
returns c =
    let a = c.args in
    let k₀ = c.root-2.ensures.kept.0 in
    let k₁ = c.root-2.ensures.kept.1 in
    let z = c.if-check.false in
    let h = reads_storing (desc a.limit a.limit a.s.now a.at) a.text.now a.t a.nodes.now a.n _ _ _ _ (c.requires.again z) c.root-2.ensures.read in
    search rules
