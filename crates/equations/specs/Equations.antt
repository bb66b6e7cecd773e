-- The equations v = f(v) of a script, one for each routine, and the slopes of f. Values are
-- functions of the routine's number.
use Rattle.std.specs.Prelude.{◌≡◌, ℕ, ◌<◌, cond, List, [], ◌∷◌, map, ◌==◌}
use Rattle.semiring.specs.Algebra.{Algebra}
use Rattle.semiring.specs.Sums.{product}
use Rattle.equations.specs.Rule.{Rule}

module _ {K : Type 0} (k : Algebra K) where
  -- The sum, over the rules of routine r, of the weight times g of the calls; zero where r has
  -- no rule.
  abbrev pub over : List (Rule K) → (List ℕ → K) → ℕ → K
  over [] g r = k.zero
  over (rule ∷ rules) g r = k.plus (cond (rule.routine == r) (k.times rule.weight (g rule.calls)) k.zero) (over rules g r)

  -- The product of the values of the calls.
  abbrev pub called : (ℕ → K) → List ℕ → K
  called v calls = product k (map v calls)

  -- The sum, over each place of the calls that names q, of the product of the values at the other
  -- places.
  abbrev pub others : (ℕ → K) → ℕ → List ℕ → K
  others v q [] = k.zero
  others v q (c ∷ calls) = k.plus (cond (c == q) (called v calls) k.zero) (k.times (v c) (others v q calls))

  -- f(v) at r: what r's rules are worth, a rule being worth its weight times the values of its
  -- calls.
  abbrev pub image : List (Rule K) → (ℕ → K) → ℕ → K
  image script v r = over script (called v) r

  -- The slope of f at v, in row r and place q.
  abbrev pub slope : List (Rule K) → (ℕ → K) → ℕ → ℕ → K
  slope script v r q = over script (others v q) r

  -- v solves the equations of the routines below n.
  abbrev pub Solves : ℕ → List (Rule K) → (ℕ → K) → Type 0
  Solves n script v = (r : ℕ) → r < n → v r ≡ image script v r
