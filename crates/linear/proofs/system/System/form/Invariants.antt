use Rattle.linear.specs.Rows.{OnlyGrid, cells_of}
use Rattle.linear.specs.Kleene.{Closed}
use Rattle.linear.proofs.system.System.form.Given as goal

abbrev pub invariant-loop-p : goal.invariant-loop-p
invariant-loop-p g l = record {
  cells : Closed g.K.Semiring.algebra l.initial.self.n l.p (cells_of g.K.Semiring.algebra l.initial.self) (cells_of g.K.Semiring.algebra l.self);
  only : OnlyGrid l.initial.self l.self;
}
