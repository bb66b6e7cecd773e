use Rattle.linear.specs.Removal.{Removed}
use Rattle.linear.proofs.system.System.remove.Given as goal

abbrev pub invariant-loop-i : goal.invariant-loop-i
invariant-loop-i g l = Removed g.K.Semiring.algebra l.p l.i l.fn.self l.self
