use Rattle.linear.proofs.Steps.{removed_more}
use Rattle.linear.proofs.system.System.remove_all.Goals as goal

pub loop-p-preserved : goal.loop-p-preserved
loop-p-preserved g c = removed_more g.K.Semiring.algebra c.loop-p.invariant c.remove.ensures
