-- What Newton's method makes of the rules of n routines.
use Rattle.std.specs.Prelude.{◌≡◌, ℕ, zero, suc, ◌≤◌, List, Some, None, Ok, Err, Result}
use Rattle.semiring.specs.Algebra.{Algebra}
use Rattle.script.specs.declared.branch.Branch.{Branch}
use Rattle.script.specs.declared.fault.Fault.{Fault}
use Rattle.script.specs.Feed.{Feed}
use Rattle.linear.specs.System.{Least}
use Rattle.equations.specs.Rule.{Rule}
use Rattle.equations.specs.Equations.{image, slope, Solves}
use Rattle.equations.specs.Reached.{Image}
use Rattle.equations.specs.Convergence.{SumOfRuns}
use Rattle.report.specs.Script.{routines, rules, fault_of}

module _ {K : Type 0} (k : Algebra K) (n : ℕ) (script : List (Rule K)) where
  -- The values behind so many rounds from f of all zeros, each made where the values before it do
  -- not solve the equations.
  abbrev pub Made : ℕ → (ℕ → K) → Type 0
  Made zero v = Image k n script (λ r. k.zero) v
  Made (suc j) v = (u : ℕ → K) × Made j u × (Solves k n script u → ⊥) × Least k n (slope k script u) (image k script u) v

  -- The values are the sum over all runs, and so many rounds were made for them.
  pub record Settled (v : ℕ → K) (rounds : ℕ) : Type 0 where
    pub made : Made rounds v
    pub few : rounds ≤ n
    pub sum : SumOfRuns k n script v

-- What a kind makes of a script: values, and the answer with the rounds.
abbrev pub Settles : {K : Type 0} → Algebra K → (Branch → K) → Feed → (ℕ → K) → Result ℕ Fault → Type 0
Settles k weight feed v (Ok rounds) = (fault_of feed ≡ None) × Settled k (routines feed.items) (rules weight feed.items) v rounds
Settles k weight feed v (Err fault) = fault_of feed ≡ Some fault
