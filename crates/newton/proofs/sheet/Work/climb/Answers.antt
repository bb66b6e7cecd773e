use Rattle.std.proofs.Common.{rules}
use Rattle.newton.specs.Slices.{slices}
use Rattle.newton.specs.Working.{Lifts}
use Rattle.newton.proofs.Benches.{given_back}
use Rattle.newton.proofs.sheet.Work.climb.Goals as goal

pub returns-clause-climbs : goal.returns-clause-climbs
returns-clause-climbs g c =
    let s = slices c.args.script c.args.space.now in
    record {
      asked = c.in_ok-due.ensures;
      lifts = given_back (Lifts g.K.Semiring.algebra c.args.self.now.progress.size s) c.lift.new.self c.args.script _ _ _ c.lift.ensures.same.script (search rules) (search rules) (search rules) c.lift.ensures.lifts;
    }
