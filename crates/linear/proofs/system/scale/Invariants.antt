use Rattle.std.proofs.Common.{◌≡◌, ◌++◌, map, take, drop}
use Rattle.linear.proofs.system.scale.Given as goal

abbrev pub invariant-loop-cell : goal.invariant-loop-cell
invariant-loop-cell g l = l.row ≡ map (g.K.Semiring.algebra.times l.by) (take l.cell-index l.initial.row) ++ drop l.cell-index l.initial.row
