use Rattle.std.proofs.Common.{◌≡◌, ◌*◌, IfOk, IfErr, Ok, Err, refl, sym, ap, ◌∙◌, subst, rules}
use Rattle.equations.specs.Held.{written}
use Rattle.newton.specs.Slices.{slices}
use Rattle.newton.specs.Working.{RoundsEnd, SettlesBy}
use Rattle.newton.specs.Bench.{laid, sheet_of}
use Rattle.newton.proofs.Benches.{given_back}
use Rattle.newton.proofs.Settling.{left_off, settles}
use Rattle.newton.proofs.sheet.Work.settled.Goals as goal

pub returns : goal.returns
returns g c =
    let k = g.K.Semiring.algebra in
    let before = c.args.self.now.progress in
    let size = before.size in
    let made = c.make_rounds-end in
    let start = g.S.Solver.calls c.args.solver.now in
    let stop = g.S.Solver.calls made.new.solver in
    let b = made.new.self in
    let b' = c.clear.new.self in
    let s = slices c.args.script c.args.space.now in
    let same = made.ensures.same in
    let told = c.clear.ensures in
    let script = told.same.script ∙ same.script in
    let left = left_off k size before.rounds start b.progress.rounds stop s (laid b) (laid b') (ap (λ x. x.branches.now) script) (ap (λ x. x.weights.now) script) made.ensures.rounds told.values (subst (λ z. b'.column.now ≡ written (λ r. k.zero) z.n b.column.now) same.size told.column) (subst (λ z. b'.grid.now ≡ written (λ r. k.zero) (z.n * z.n) b.grid.now) same.size told.grid) in
    let ended = given_back (λ x. RoundsEnd k size b.progress.rounds x made.result) b b'.script b'.values.now b.column.now b.grid.now (sym told.same.script) told.values refl refl made.ensures.end in
    let told_by = settles k c.args.self.now (sheet_of b) s (laid b') start stop c.in_ok-ready_in.ensures same.size left made.result c.settled_after.result ended c.settled_after.ensures in
    record {
      ok = given_back (λ x. IfOk c.settled_after.result (λ f. SettlesBy k c.args.self.now s start x stop (Ok f))) b' c.args.script _ _ _ script (search rules) (search rules) (search rules) told_by.0;
      err = given_back (λ x. IfErr c.settled_after.result (λ why. SettlesBy k c.args.self.now s start x stop (Err (sheet_of b, why)))) b' c.args.script _ _ _ script (search rules) (search rules) (search rules) told_by.1;
      lent = search rules;
    }
