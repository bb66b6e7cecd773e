use Rattle.std.proofs.Common.{◌≡◌, arith}
use Rattle.linear.proofs.Closedness.{multiplied_all}
use Rattle.linear.proofs.Cells.{only_column_more}
use Rattle.linear.proofs.Steps.{multiply_turn}
use Rattle.linear.proofs.system.System.multiply.Goals as goal

pub loop-r-preserved : goal.loop-r-preserved
loop-r-preserved g c =
    let h = c.loop-r.invariant in
    record { multiplied = multiply_turn g.K.Semiring.algebra c.args.self.now c.loop-r.self c.apply.new.self c.loop-r.r c.loop-r-test.true h.multiplied h.only c.apply.ensures.value; only = only_column_more h.only c.apply.ensures.only }

pub returns-clause-least : goal.returns-clause-least
returns-clause-least g c a h =
    let all : c.loop-r.r ≡ c.args.self.now.n = omega arith in
    multiplied_all _ _ a _ _ _ h (rw all at (c.loop-r.invariant.multiplied a h))
