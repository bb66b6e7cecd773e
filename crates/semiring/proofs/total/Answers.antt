use Rattle.std.proofs.Common.{sym, ap, ◌∙◌, subst, arith, take_all, rules}
use Rattle.semiring.specs.Sums.{total, LeastAbove}
use Rattle.semiring.proofs.Sums.{total_more, total_least_above}
use Rattle.semiring.proofs.total.Goals as goal

pub loop-weight-preserved : goal.loop-weight-preserved
loop-weight-preserved g c =
    let joined = rw c.loop-weight.invariant.1 at c.sum-all.ensures in
    (omega arith, joined ∙ total_more g.K.Semiring.algebra c.args.weights.now c.loop-weight.weight-index _ c.loop-weight-test.true (search rules))

pub returns : goal.returns
returns g c =
    let k = g.K.Semiring.algebra in
    let whole = c.loop-weight.invariant.1 ∙ ap (total k) (take_all _ _ c.loop-weight-test.false) in
    record { sum = whole; bound = subst (LeastAbove k c.args.weights.now) (sym whole) (total_least_above k c.args.weights.now) }
