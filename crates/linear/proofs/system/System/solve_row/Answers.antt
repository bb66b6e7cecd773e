use Rattle.std.proofs.Common.{refl}
use Rattle.linear.proofs.Steps.{removed_here}
use Rattle.linear.proofs.system.System.solve_row.Goals as goal

pub returns : goal.returns
returns g c =
    let s = c.scale_row.new.self in
    removed_here g.K.Semiring.algebra c.args.self.now c.take.new.self s (record s { column = _; fits = _ }) c.args.p c.take.result c.star-by.result c.index-self-p.result c.product.result c.requires.row c.requires.cleared c.take.ensures.was c.take.ensures.cell c.take.ensures.only c.star-by.ensures c.scale_row.ensures c.index-self-p.is c.product.ensures (record { size = refl; grid = refl; column = refl }) refl refl
