-- Complete runs. A run of a routine is one rule of it, with a run of the called routine for each
-- of the rule's calls; it is finite, since it is built up from rules without calls.
use Rattle.std.specs.Prelude.{ℕ, List, [], ◌∷◌}
use mathlib.Core.List.{Memᴰ}
use Rattle.semiring.specs.Algebra.{Algebra}
use Rattle.equations.specs.Rule.{Rule}

-- One run for each routine of a list, in order. The first of them is a rule of the script for its
-- routine, with the runs that this rule calls.
pub data Runs {K : Type 0} (script : List (Rule K)) : List ℕ → Type 0 where
  none : Runs script []
  more : {r : ℕ} {calls : List ℕ} {w : K} {rest : List ℕ} → Memᴰ (record { routine = r; calls = calls; weight = w }) script → Runs script calls → Runs script rest → Runs script (r ∷ rest)

-- A complete run of routine r.
abbrev pub Run : {K : Type 0} → List (Rule K) → ℕ → Type 0
Run script r = Runs script (r ∷ [])

-- The product of the weights of all rules in the runs, each as often as it occurs.
abbrev pub weight : {K : Type 0} (k : Algebra K) {script : List (Rule K)} {qs : List ℕ} → Runs script qs → K
weight k none = k.one
weight k (more {w} m children rest) = k.times w (k.times (weight k children) (weight k rest))
