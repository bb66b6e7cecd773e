use Rattle.std.proofs.Common.{◌≡◌, List, length, Result}
use Rattle.script.specs.declared.branch.Branch.{Branch}
use Rattle.script.specs.declared.fault.Fault.{Fault}
use Rattle.newton.specs.declared.sheet.Draft.{Draft}
use Rattle.newton.specs.Loading.{Loads}
use Rattle.newton.proofs.sheet.Draft.load.Given as goal

-- whatever the rest comes to, the whole comes to
abbrev pub invariant-loop-item : goal.invariant-loop-item
invariant-loop-item g l =
    let s = g.S.Source in
    let w = g.W.Weighing.weight in
    ((d : Draft) (bs : List Branch) (ws : List g.row.W.Denot) (r : Result (Unit {0}) Fault) →
    Loads w (s.feed l.source).items (s.feed l.source).ending l.self l.branches l.weights d bs ws r →
    Loads w (s.feed l.initial.source).items (s.feed l.initial.source).ending l.initial.self l.initial.branches l.initial.weights d bs ws r)
    × (s.legend l.source ≡ s.legend l.initial.source)

abbrev pub decreases-loop-item : goal.decreases-loop-item
decreases-loop-item g l = length (g.S.Source.feed l.source).items
