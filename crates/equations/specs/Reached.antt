-- Which values are reached from f of all zeros by climbs and rounds, and with how many rounds.
-- Only the values of the routines below n count.
use Rattle.std.specs.Prelude.{◌≡◌, ℕ, zero, suc, ◌<◌, List}
use Rattle.semiring.specs.Algebra.{Algebra}
use Rattle.linear.specs.System.{Least}
use Rattle.equations.specs.Rule.{Rule}
use Rattle.equations.specs.Equations.{image, slope}

-- x is f(v).
abbrev pub Image : {K : Type 0} → Algebra K → ℕ → List (Rule K) → (ℕ → K) → (ℕ → K) → Type 0
Image k n script v x = (r : ℕ) → r < n → x r ≡ image k script v r

-- A climb goes from v to f(v). A round goes from v to the least solution of x = A x + b, where A
-- is the slopes at v and b is f(v).
pub data Reached {K : Type 0} (k : Algebra K) (n : ℕ) (script : List (Rule K)) : (ℕ → K) → ℕ → Type 0 where
  start : {x : ℕ → K} → Image k n script (λ r. k.zero) x → Reached k n script x zero
  climb : {v x : ℕ → K} {rounds : ℕ} → Reached k n script v rounds → Image k n script v x → Reached k n script x rounds
  round : {v x : ℕ → K} {rounds : ℕ} → Reached k n script v rounds → Least k n (slope k script v) (image k script v) x → Reached k n script x (suc rounds)
