-- Weighted rules. A script is the list of its rules, and everything else is said over that list.
use Rattle.std.specs.Prelude.{ℕ, ◌<◌, List}
use mathlib.Core.List.{Memᴰ}

-- A way to perform a routine: the routines that it calls, in order, repeats allowed, and what it
-- weighs by itself.
pub record Rule (K : Type 0) : Type 0 where
  pub routine : ℕ
  pub calls : List ℕ
  pub weight : K

-- All routines of a script, and all that its rules call, are numbered below n.
abbrev pub Within : {K : Type 0} → ℕ → List (Rule K) → Type 0
Within {K} n script = (rule : Rule K) → Memᴰ rule script → (rule.routine < n) × ((q : ℕ) → Memᴰ q rule.calls → q < n)
