-- An example at the smallest kind: a routine's value says whether it has a complete run. Routine 0
-- calls 1 twice, 1 calls 2 twice, 2 calls none, and 3 calls only itself.
use Rattle.std.specs.Prelude.{ℕ, Bool, true, false, List, [], ◌∷◌}
use Rattle.semiring.specs.Truth.{truth}
use Rattle.linear.specs.System.{entry_at}
use Rattle.equations.specs.Rule.{Rule, Within}
use Rattle.equations.specs.Reached.{Reached}
use Rattle.equations.specs.Convergence.{SumOfRuns}

abbrev pub calling : ℕ → List ℕ → Rule Bool
calling routine calls = record { routine = routine; calls = calls; weight = true }

abbrev pub example : List (Rule Bool)
example = calling 0 (1 ∷ 1 ∷ []) ∷ calling 1 (2 ∷ 2 ∷ []) ∷ calling 2 [] ∷ calling 3 (3 ∷ []) ∷ []

-- All but routine 3 have a run.
abbrev pub ended : List Bool
ended = true ∷ true ∷ true ∷ false ∷ []

-- The values are reached with four rounds, as many as there are routines, and are the sum over all
-- runs.
pub record Example (values : List Bool) : Type 0 where
  pub within : Within 4 example
  pub reached : Reached truth 4 example (entry_at truth values) 4
  pub sum : SumOfRuns truth 4 example (entry_at truth values)
