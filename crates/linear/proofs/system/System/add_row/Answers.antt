use Rattle.linear.proofs.Cells.{added_more}
use Rattle.linear.proofs.system.System.add_row.Goals as goal

pub loop-q-preserved : goal.loop-q-preserved
loop-q-preserved g c =
    added_more g.K.Semiring.algebra c.args.self.now c.loop-q.self c.put.new.self c.args.r c.loop-q.q c.args.p c.args.by c.at.result c.at-in-loop-q.result c.product.result c.sum-weight.result c.requires.row c.requires.other c.loop-q-test.true c.put.ensures.only c.put.ensures.cell c.at.ensures c.at-in-loop-q.ensures c.product.ensures c.sum-weight.ensures c.loop-q.invariant
