use Rattle.linear.proofs.Steps.{stepped}
use Rattle.linear.proofs.system.System.step.Goals as goal

pub returns-clause-cells : goal.returns-clause-cells
returns-clause-cells g c =
    stepped g.K.Semiring.algebra c.args.self.now c.scale_row.new.self c.pass.new.self c.pass-2.new.self c.args.p c.at.result c.star-by.result c.requires c.at.ensures c.star-by.ensures c.scale_row.ensures c.pass.ensures c.pass-2.ensures
