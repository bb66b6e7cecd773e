use Rattle.linear.proofs.Steps.{removed_more}
use Rattle.linear.proofs.system.System.remove.Goals as goal

pub loop-i-preserved : goal.loop-i-preserved
loop-i-preserved g c = removed_more g.K.Semiring.algebra c.loop-i.invariant c.put_into.ensures
