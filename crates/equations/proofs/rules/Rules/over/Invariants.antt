use Rattle.std.proofs.Common.{◌≡◌, ℕ, List, length}
use Rattle.std.specs.Fn.{FnReturnsAt}
use Rattle.equations.specs.Held.{rules_of}
use Rattle.equations.specs.Equations.{over}
use Rattle.equations.proofs.rules.Rules.over.Given as goal

abbrev pub invariant-loop-branch : goal.invariant-loop-branch
invariant-loop-branch g l =
    let k = g.K.Semiring.algebra in
    (worth : List ℕ → g.row.K.Denot)
    → ((calls : List ℕ) (x : _) → FnReturnsAt g.F.Fn l.worth calls x → x ≡ worth calls)
    → l.all ≡ over k (rules_of k (length l.yielded) l.self.branches.now l.self.weights.now) worth l.r
