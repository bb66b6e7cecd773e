use Rattle.std.proofs.Common.{◌≡◌}
use Rattle.linear.specs.System.{entry_at}
use Rattle.equations.specs.Held.{listed, written, rows}
use Rattle.equations.specs.Equations.{slope}
use Rattle.equations.proofs.rules.Rules.slopes.Given as goal

abbrev pub invariant-loop-i : goal.invariant-loop-i
invariant-loop-i g l =
    let k = g.K.Semiring.algebra in
    l.place-items ≡ written (rows l.n (slope k (listed k l.self) (entry_at k l.values))) l.i l.initial.place-items
