use Rattle.linear.specs.Rows.{Rewritten, added}
use Rattle.linear.proofs.system.System.add_row.Given as goal

abbrev pub invariant-loop-q : goal.invariant-loop-q
invariant-loop-q g l = Rewritten g.K.Semiring.algebra l.r l.q (added g.K.Semiring.algebra l.initial.self l.r l.by l.p) l.initial.self l.self
