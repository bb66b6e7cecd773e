use Rattle.std.proofs.Common.{refl}
use Rattle.linear.specs.System.{entry_at}
use Rattle.report.proofs.Loading.{settles_not, ready, settles}
use Rattle.report.proofs.figures.settle.Goals as goal

pub returns-in_err-load-clause-settles : goal.returns-in_err-load-clause-settles
returns-in_err-load-clause-settles g c =
    let k = g.K.Semiring.algebra in
    let draft = c.new-draft in
    let loaded = c.load.new in
    settles_not k g.K.Weighing.weight (g.S.Source.feed c.args.source.now) draft.result c.args.branches.now c.args.weights.now loaded.self loaded.branches loaded.weights c.load.result c.load.ensures.loads draft.ensures.held draft.ensures.n c.requires.branches c.requires.weights c.requires.in_range (entry_at k c.args.space.now.values.now) c.in_err-load.field-0.0 c.from_residual.result c.in_err-load.was c.from_residual.ensures.1

pub solve-requires : goal.solve-requires
solve-requires g c =
    let k = g.K.Semiring.algebra in
    let draft = c.new-draft in
    let loaded = c.load.new in
    let space = c.args.space.now in
    let is = ready k g.K.Weighing.weight (g.S.Source.feed c.args.source.now) draft.result c.args.branches.now c.args.weights.now loaded.self loaded.branches loaded.weights c.load.result c.load.ensures.loads draft.ensures.held draft.ensures.n c.requires.branches c.requires.weights c.requires.in_range c.in_ok-load.was (record { branches = loaded.branches; weights = loaded.weights; values = space.values.now; column = space.column.now; grid = space.grid.now }) refl refl c.requires.values c.requires.column c.requires.grid in
    (is.0, (is.1, tt))

pub returns-clause-settles : goal.returns-clause-settles
returns-clause-settles g c =
    let k = g.K.Semiring.algebra in
    let draft = c.new-draft in
    let loaded = c.load.new in
    settles k g.K.Weighing.weight (g.S.Source.feed c.args.source.now) draft.result c.args.branches.now c.args.weights.now loaded.self loaded.branches loaded.weights c.load.result c.load.ensures.loads draft.ensures.held draft.ensures.n c.requires.branches c.requires.weights c.requires.in_range c.in_ok-load.was (entry_at k c.solve.new.space.values.now) c.solve.result c.solve.ensures.settled
