use Rattle.varint.proofs.PutSteps.{Left}
use Rattle.varint.proofs.put_free.Given as goal

abbrev pub invariant-loop-v : goal.invariant-loop-v
invariant-loop-v l = Left l.initial.out 0 l.value l.out l.v l.p

abbrev pub decreases-loop-v : goal.decreases-loop-v
decreases-loop-v l = l.v
