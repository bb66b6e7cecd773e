use Rattle.std.proofs.Common.{◌∙◌, sym, subst}
use Rattle.newton.specs.Working.{SolvedBy}
use Rattle.newton.specs.Bench.{laid, sheet_of}
use Rattle.newton.proofs.Settling.{round_on}
use Rattle.newton.proofs.sheet.bench.Bench.make_rounds.Goals as goal

pub loop-self-preserved : goal.loop-self-preserved
loop-self-preserved g c =
    let k = g.K.Semiring.algebra in
    let calls = g.S.Solver.calls in
    let first = c.args.self.now in
    let mid = c.loop-self.self in
    let after = c.go_on.new.self in
    let size = first.progress.size in
    let on = c.loop-self.invariant.on in
    let held = c.loop-self.invariant.same in
    let same = c.go_on.ensures.same in
    let due : SolvedBy k size (laid mid) → ⊥ = λ solved. let is = c.solved.ensures.1 (subst (λ z. SolvedBy k z (laid mid)) (sym held.size) solved) in cc in
    record {
      on = round_on k size first.progress.rounds (calls c.args.solver.now) (laid first) (laid mid) (laid after) (calls c.loop-self.solver) (calls c.go_on.new.solver) (sheet_of mid) (sheet_of after) held.size on due c.in_ok-go_on.ensures.goes.1;
      same = record {
        size = same.size ∙ held.size;
        script = same.script ∙ held.script;
        values = same.values ∙ held.values;
        column = same.column ∙ held.column;
        grid = same.grid ∙ held.grid;
      };
    }
