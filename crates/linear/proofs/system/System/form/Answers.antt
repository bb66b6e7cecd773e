use Rattle.linear.proofs.Steps.{form_turn}
use Rattle.linear.proofs.Cells.{only_grid_more}
use Rattle.linear.proofs.system.System.form.Goals as goal

pub loop-p-preserved : goal.loop-p-preserved
loop-p-preserved g c =
    let h = c.loop-p.invariant in
    record { cells = form_turn g.K.Semiring.algebra c.args.self.now c.loop-p.self c.step.new.self c.loop-p.p c.loop-p-test.true h.only h.cells c.step.ensures.cells; only = only_grid_more h.only c.step.ensures.only }
