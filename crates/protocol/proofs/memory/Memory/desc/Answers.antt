use mathlib.Core.Path.{refl}
use Rattle.std.proofs.lemmas.Result.{err_from_is_err_and}
use Rattle.protocol.specs.Inner.Loading.{mem, told}
use Rattle.protocol.proofs.DescLoads.{desc_failed, desc_loaded}
use Rattle.protocol.proofs.memory.Memory.desc.Goals as goal

pub returns-in_err-walked : goal.returns-in_err-walked
unfolding told
returns-in_err-walked c =
    let p = err_from_is_err_and c.from_residual.result c.from_residual.ensures.1 in
    rw (p.1, p.2) ((refl, refl, refl), desc_failed c.args.s.now c.args.at (mem c.args.self.now) c.read_desc.ensures c.in_err-walked.was)

pub returns : goal.returns
returns c = ((refl, refl, refl), desc_loaded c.args.s.now c.args.at (mem c.args.self.now) c.read_desc.ensures c.in_ok-walked.was)
