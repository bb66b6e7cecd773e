use Rattle.std.proofs.Common.{◌≡◌}
use Rattle.linear.specs.System.{entry_at}
use Rattle.equations.specs.Held.{listed, written}
use Rattle.equations.specs.Equations.{image}
use Rattle.equations.proofs.rules.Rules.image.Given as goal

abbrev pub invariant-loop-r : goal.invariant-loop-r
invariant-loop-r g l =
    let k = g.K.Semiring.algebra in
    l.place-items ≡ written (image k (listed k l.self) (entry_at k l.values)) l.r l.initial.place-items
