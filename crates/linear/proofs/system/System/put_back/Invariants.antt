use Rattle.linear.specs.Rows.{OnlyColumn, cells_of, values_of}
use Rattle.linear.proofs.Refinement.{Back}
use Rattle.linear.proofs.system.System.put_back.Given as goal

abbrev pub invariant-loop-r : goal.invariant-loop-r
invariant-loop-r g l =
    let k = g.K.Semiring.algebra in
    let s = l.initial.self in
    record {
      back : Back k s.n l.r (cells_of k s) (values_of k s) (values_of k l.self);
      only : OnlyColumn s l.self;
    }
