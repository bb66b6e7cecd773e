use Rattle.std.proofs.Common.{arith}
use Rattle.linear.proofs.Cells.{only_column_more}
use Rattle.linear.proofs.Steps.{back_turn}
use Rattle.linear.proofs.system.System.put_back.Goals as goal

pub loop-r-preserved : goal.loop-r-preserved
loop-r-preserved g c =
    let h = c.loop-r.invariant in
    record { back = back_turn g.K.Semiring.algebra c.args.self.now c.loop-r.self c.apply.new.self c.loop-r.r c.loop-r-test.true (omega arith) c.requires h.back h.only c.apply.ensures.value; only = only_column_more h.only c.apply.ensures.only }
