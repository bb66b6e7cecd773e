-- What the reached values come to, whatever the kind: those that solve the equations are the sum
-- over all runs, and n rounds suffice for n routines.
use Rattle.std.specs.Prelude.{◌≡◌, ℕ, ◌<◌, List, map}
use Rattle.semiring.specs.Algebra.{Algebra}
use Rattle.semiring.specs.Sums.{total}
use Rattle.equations.specs.Rule.{Rule, Within}
use Rattle.equations.specs.Equations.{Solves}
use Rattle.equations.specs.Run.{Run, weight}
use Rattle.equations.specs.Reached.{Reached}

-- The value of each routine is the sum of the weights of a finite list of its complete runs, and
-- adding the weight of any further run leaves it. The values solve the equations; added to those
-- of any other solution they leave that solution.
pub record SumOfRuns {K : Type 0} (k : Algebra K) (n : ℕ) (script : List (Rule K)) (v : ℕ → K) : Type 0 where
  pub finite : (r : ℕ) → r < n → (runs : List (Run script r)) × (v r ≡ total k (map (weight k) runs))
  pub complete : (r : ℕ) → r < n → (run : Run script r) → k.plus (v r) (weight k run) ≡ v r
  pub solves : Solves k n script v
  pub least : (y : ℕ → K) → Solves k n script y → (r : ℕ) → r < n → k.plus (v r) (y r) ≡ y r

-- Reached values that solve the equations are the sum over all runs.
abbrev pub Exact : {K : Type 0} → Algebra K → Type 0
Exact {K} k = (n : ℕ) (script : List (Rule K)) → Within n script → (v : ℕ → K) (rounds : ℕ) → Reached k n script v rounds → Solves k n script v → SumOfRuns k n script v

-- With all routines below n, values reached with n rounds solve the equations, however many
-- climbs stand between.
abbrev pub Enough : {K : Type 0} → Algebra K → Type 0
Enough {K} k = (n : ℕ) (script : List (Rule K)) → Within n script → (v : ℕ → K) → Reached k n script v n → Solves k n script v

pub record Convergence {K : Type 0} (k : Algebra K) : Type 0 where
  pub exact : Exact k
  pub enough : Enough k
