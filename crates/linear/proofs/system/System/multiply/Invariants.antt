use Rattle.std.proofs.Common.{ℕ}
use Rattle.linear.specs.Rows.{OnlyColumn, cells_of, values_of}
use Rattle.linear.specs.Kleene.{Closed}
use Rattle.linear.proofs.Closedness.{Multiplied}
use Rattle.linear.proofs.system.System.multiply.Given as goal

abbrev pub invariant-loop-r : goal.invariant-loop-r
invariant-loop-r g l =
    let k = g.K.Semiring.algebra in
    let s = l.initial.self in
    record {
      multiplied : (a : ℕ → ℕ → g.row.K.Denot) → Closed k s.n s.n a (cells_of k s) → Multiplied k s.n l.r (cells_of k s) (values_of k s) (values_of k l.self);
      only : OnlyColumn s l.self;
    }
