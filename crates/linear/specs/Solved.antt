-- What one call of a solver promises: which systems it takes, what it leaves of them, when it
-- refuses, and what becomes of its count.
use Rattle.std.specs.Prelude.{◌≡◌, ℕ, ◌+◌, ◌*◌, ◌≤◌, min, List, length, Ok, Err, Result}
use Rattle.semiring.specs.Algebra.{Algebra}
use Rattle.linear.specs.declared.refusal.Refusal.{Refusal}
use Rattle.linear.specs.declared.refusal.Refusal.TheVariants.{System}
use Rattle.linear.specs.System.{Leaves}

-- A system that a solver takes: at most 32 unknowns, a place of the column for each, and n × n
-- places of the grid.
pub record Fits {K : Type 0} (n : ℕ) (grid column : List K) : Type 0 where
  pub small : n ≤ 32
  pub places : n ≤ length column
  pub cells : n * n ≤ length grid

-- Each refusal's number, and when it is given.
abbrev pub refusal_number : Refusal → ℕ
refusal_number System = 12

abbrev pub Refused : {K : Type 0} → Refusal → ℕ → List K → List K → Type 0
Refused System n grid column = Fits n grid column → ⊥

-- One system more, up to the largest number that the count holds.
abbrev pub one_more : ℕ → ℕ
one_more calls = min (calls + 1) 4294967295

-- The call before and after: the count of systems solved, the grid and the column.
pub record Accepted {K : Type 0} (k : Algebra K) (n calls : ℕ) (grid column : List K) (calls' : ℕ) (grid' column' : List K) : Type 0 where
  pub fits : Fits n grid column
  pub leaves : Leaves k n grid column grid' column'
  pub size : length column' ≡ length column
  pub count : calls' ≡ one_more calls

pub record Untouched {K : Type 0} (calls : ℕ) (grid column : List K) (calls' : ℕ) (grid' column' : List K) : Type 0 where
  pub cells : grid' ≡ grid
  pub places : column' ≡ column
  pub count : calls' ≡ calls

abbrev pub Solved : {K : Type 0} → Algebra K → ℕ → ℕ → List K → List K → ℕ → List K → List K → Result (Unit {0}) Refusal → Type 0
Solved k n calls grid column calls' grid' column' (Ok done) = Accepted k n calls grid column calls' grid' column'
Solved k n calls grid column calls' grid' column' (Err refusal) = Refused refusal n grid column × Untouched calls grid column calls' grid' column'

-- The question that stands before the work.
abbrev pub Asked : {K : Type 0} → ℕ → List K → List K → Result (Unit {0}) Refusal → Type 0
Asked n grid column (Ok done) = Fits n grid column
Asked n grid column (Err refusal) = Refused refusal n grid column
