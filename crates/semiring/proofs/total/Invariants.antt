use Rattle.std.proofs.Common.{◌≡◌, ◌≤◌, length, take}
use Rattle.semiring.specs.Sums.{total}
use Rattle.semiring.proofs.total.Given as goal

abbrev pub invariant-loop-weight : goal.invariant-loop-weight
invariant-loop-weight g l = (l.weight-index ≤ length l.weights) × (l.all ≡ total g.K.Semiring.algebra (take l.weight-index l.weights))
