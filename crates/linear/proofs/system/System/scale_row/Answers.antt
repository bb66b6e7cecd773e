use Rattle.std.proofs.Common.{refl, arith}
use Rattle.linear.proofs.Cells.{rewritten_part}
use Rattle.linear.proofs.system.System.scale_row.Goals as goal

pub returns : goal.returns
returns g c =
    let k = g.K.Semiring.algebra in
    let s = c.args.self.now in
    rewritten_part k s (record s { grid = _; fits = _ }) c.args.r _ (k.times c.args.by) c.scale.new.row c.requires (record { size = refl; grid = refl; column = refl }) refl refl (omega arith) c.scale.ensures
