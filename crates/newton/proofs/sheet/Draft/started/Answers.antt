use Rattle.std.proofs.Common.{refl}
use Rattle.newton.proofs.Ruled.{imaged}
use Rattle.newton.proofs.sheet.Draft.started.Goals as goal

pub returns-clause-ok : goal.returns-clause-ok
returns-clause-ok g c =
    let k = g.K.Semiring.algebra in
    record {
      asked = c.in_ok-ready_in.ensures;
      size = c.new.ensures.size;
      rounds = c.new.ensures.rounds;
      values = imaged k c.held.ensures (λ r. k.zero) c.args.self.now.size.n c.args.space.now.values.now c.image.new.column c.image.ensures;
      cleared = record { branches = refl; weights = refl; column = c.clear.ensures; grid = c.clear-2.ensures };
    }
