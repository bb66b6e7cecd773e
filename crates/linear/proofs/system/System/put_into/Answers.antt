use Rattle.std.proofs.Common.{refl}
use Rattle.linear.proofs.Steps.{removed_below}
use Rattle.linear.proofs.system.System.put_into.Goals as goal

pub returns : goal.returns
returns g c =
    let s = c.add_row.new.self in
    removed_below g.K.Semiring.algebra c.args.self.now c.take-by.new.self s (record s { column = _; fits = _ }) c.args.p c.args.i c.take-by.result c.index-self-i.result c.index-self-p.result c.product.result c.sum.result c.requires.order c.requires.row c.requires.cleared c.take-by.ensures.was c.take-by.ensures.cell c.take-by.ensures.only c.add_row.ensures c.index-self-i.is c.index-self-p.is c.product.ensures c.sum.ensures (record { size = refl; grid = refl; column = refl }) refl refl
