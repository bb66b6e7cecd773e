use Rattle.linear.specs.System.{entry_at}
use Rattle.newton.specs.Bench.{laid}
use Rattle.newton.proofs.Ruled.{imaged, sloped}
use Rattle.newton.proofs.Stepping.{stepped}
use Rattle.newton.proofs.sheet.bench.Bench.step.Goals as goal

pub returns-clause-step : goal.returns-clause-step
returns-clause-step g c =
    let k = g.K.Semiring.algebra in
    let b = c.args.self.now in
    let n = b.progress.size.n in
    let v = entry_at k b.values.now in
    let same = c.rules-rules.ensures in
    stepped k b.progress.size (laid b) b.room.values c.image.new.column c.slopes.new.grid c.solve.new.column c.solve.new.grid c.take_over.new.values c.take_over.new.column c.take_over.new.grid _ _ (imaged k same v n b.column.now c.image.new.column c.image.ensures) (sloped k same v n b.grid.now c.slopes.new.grid c.slopes.ensures) c.solve.ensures c.take_over.ensures.values c.take_over.ensures.column c.take_over.ensures.grid
