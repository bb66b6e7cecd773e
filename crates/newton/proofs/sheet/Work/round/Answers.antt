use Rattle.std.proofs.Common.{rules}
use Rattle.newton.specs.Slices.{slices}
use Rattle.newton.specs.Working.{Rounded}
use Rattle.newton.specs.Bench.{laid, sheet_of}
use Rattle.newton.proofs.Benches.{given_back}
use Rattle.newton.proofs.Settling.{rounded}
use Rattle.newton.proofs.sheet.Work.round.Goals as goal

pub returns-clause-rounds : goal.returns-clause-rounds
returns-clause-rounds g c =
    let k = g.K.Semiring.algebra in
    let calls = g.S.Solver.calls in
    let w = c.args.self.now in
    let s = slices c.args.script c.args.space.now in
    let end = c.go_on-end in
    let b = end.new.self in
    given_back (λ s'. Rounded k w s (calls c.args.solver.now) (sheet_of b) s' (calls end.new.solver) end.result) b c.args.script _ _ _ end.ensures.same.script (search rules) (search rules) (search rules) (rounded k w (sheet_of b) s (laid b) (calls c.args.solver.now) (calls end.new.solver) c.in_ok-due.ensures end.result end.ensures.goes)
