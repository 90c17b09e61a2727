use Rattle.protocol_write.specs.Inner.Checking.{nodes_fine}
use Rattle.protocol_write.proofs.TypeSizes.{sizes_end}
use Rattle.protocol_write.proofs.checks.size_types.Goals as goal
use native.Mathlib.Omega.{arith}

pub returns : goal.returns
unfolding nodes_fine
returns c =
    let i = c.loop-row.invariant in
    let short = c.in-None.ensures.steps.1.0 in
    rw (i.1, i.2) (sizes_end _ _ _ _ _ (omega arith) i.3)
