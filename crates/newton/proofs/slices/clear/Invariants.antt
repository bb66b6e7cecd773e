use Rattle.std.proofs.Common.{◌≡◌}
use Rattle.equations.specs.Held.{written}
use Rattle.newton.proofs.slices.clear.Given as goal

abbrev pub invariant-loop-item : goal.invariant-loop-item
invariant-loop-item g l = l.item-items ≡ written (λ r. g.K.Semiring.algebra.zero) l.item-index l.initial.item-items
