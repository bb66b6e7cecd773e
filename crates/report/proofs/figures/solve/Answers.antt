use Rattle.std.proofs.Common.{subst, sym}
use Rattle.linear.specs.System.{entry_at}
use Rattle.newton.specs.Slices.{slices}
use Rattle.newton.specs.Working.{held_rules}
use Rattle.report.specs.Settled.{Settled}
use Rattle.report.proofs.Settling.{settles_draft, cannot_settle}
use Rattle.report.proofs.figures.solve.Goals as goal

pub unreachable-requires-in_default-settle : goal.unreachable-requires-in_default-settle
unreachable-requires-in_default-settle g c =
    let calls = g.V.Solver.calls in
    cannot_settle g.K.Semiring.algebra c.args.draft c.in-Ok.work (slices c.args.script c.args.space.now) (slices c.args.script c.start.new.space) (slices c.args.script c.settle.new.space) (calls c.args.solver.now) (calls c.settle.new.solver) c.requires c.in-Ok.ensures.starts c.in_default-settle.field-0 c.in_default-settle.ensures.settles

pub returns-clause-settled : goal.returns-clause-settled
returns-clause-settled g c =
    let calls = g.V.Solver.calls in
    let k = g.K.Semiring.algebra in
    let s = slices c.args.script c.args.space.now in
    let s' = slices c.args.script c.settle.new.space in
    let f = c.in-Ok-settle.settled in
    subst (λ rounds. Settled k c.args.draft.size.n (held_rules k c.args.draft.size s) (entry_at k s'.values) rounds) (sym c.rounds.ensures)
    (settles_draft k c.args.draft c.in-Ok.work s (slices c.args.script c.start.new.space) s' (calls c.args.solver.now) (calls c.settle.new.solver) c.requires c.in-Ok.ensures.starts f c.in-Ok-settle.ensures.settles)
