use Rattle.std.proofs.Common.{◌-◌}
use Rattle.newton.specs.Working.{RoundsOn}
use Rattle.newton.specs.Bench.{laid, SameBench}
use Rattle.newton.proofs.sheet.bench.Bench.make_rounds.Given as goal

abbrev pub invariant-loop-self : goal.invariant-loop-self
invariant-loop-self g l =
    let calls = g.S.Solver.calls in
    let first = l.initial.self in
    record {
      on : RoundsOn g.K.Semiring.algebra first.progress.size first.progress.rounds (laid first) (calls l.initial.solver) l.self.progress.rounds (laid l.self) (calls l.solver);
      same : SameBench first l.self;
    }

abbrev pub decreases-loop-self : goal.decreases-loop-self
decreases-loop-self g l = l.self.progress.size.n - l.self.progress.rounds
