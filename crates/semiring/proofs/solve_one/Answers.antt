use Rattle.std.proofs.Common.{sym, subst}
use Rattle.semiring.specs.Equation.{LeastSolution}
use Rattle.semiring.proofs.Order.{order_laws}
use Rattle.semiring.proofs.Star.{star_least_solution, star_laws}
use Rattle.semiring.proofs.solve_one.Goals as goal

pub returns : goal.returns
returns g c =
    let k = g.K.Semiring.algebra in
    record {
      least = subst (LeastSolution k c.args.a c.args.b) (sym c.starred.ensures) (star_least_solution k c.args.a c.args.b);
      order = order_laws k;
      star = star_laws k c.args.a;
    }
