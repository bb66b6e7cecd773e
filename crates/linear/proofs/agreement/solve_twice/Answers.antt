use Rattle.std.proofs.Common.{rules}
use Rattle.linear.proofs.Existence.{one_solution}
use Rattle.linear.proofs.Uniqueness.{solved_alike}
use Rattle.linear.proofs.agreement.solve_twice.Goals as goal

pub returns : goal.returns
returns g c =
    let same = solved_alike g.K.Semiring.algebra c.args.n (g.S.Solver.calls c.args.one.now) (g.T.Solver.calls c.args.other.now) (g.S.Solver.calls c.solve.new.self) (g.T.Solver.calls c.solve-2.new.self) c.args.grid.now c.args.column.now c.solve.new.grid c.solve.new.column c.in_ok-solve.ensures c.args.second_grid.now c.args.second_column.now c.solve-2.new.grid c.solve-2.new.column c.requires.grid c.requires.column c.solve-2.result c.solve-2.ensures in
    record { first = same.0; second = c.solve-2.ensures; one = one_solution g.K.Semiring.algebra; agree = same.1 }

pub returns-in_err-solve : goal.returns-in_err-solve
returns-in_err-solve g c = search (rules, one_solution)
