use Rattle.std.proofs.lemmas.List.Edits.{map_over_more}
use Rattle.linear.proofs.system.scale.Goals as goal

pub loop-cell-preserved : goal.loop-cell-preserved
loop-cell-preserved g c =
    rw (c.product.ensures, ← c.cell-item.is) (map_over_more _ c.args.row.now _ _ c.cell-item.result c.loop-cell-test.true c.loop-cell.invariant c.cell-item.is)
