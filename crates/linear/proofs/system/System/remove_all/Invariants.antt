use Rattle.linear.specs.Removal.{Removed}
use Rattle.linear.proofs.system.System.remove_all.Given as goal

abbrev pub invariant-loop-p : goal.invariant-loop-p
invariant-loop-p g l = Removed g.K.Semiring.algebra l.p l.p l.initial.self l.self
