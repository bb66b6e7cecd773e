use Rattle.linear.specs.Kleene.{Passed}
use Rattle.linear.proofs.system.System.pass.Given as goal

abbrev pub invariant-loop-i : goal.invariant-loop-i
invariant-loop-i g l = Passed g.K.Semiring.algebra l.p l.from l.i l.initial.self l.self
