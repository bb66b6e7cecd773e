-- Kleene's scheme. A way from row i to row j is a product of cells, the first in row i, each next
-- one in the row that the last one names, until j is named; step by step the ways may pass more
-- rows.
use Rattle.std.specs.Prelude.{◌≡◌, ℕ, ◌<◌, ◌≤◌}
use Rattle.semiring.specs.Algebra.{Algebra, Under}
use Rattle.linear.specs.declared.system.System.{System}
use Rattle.linear.specs.Rows.{OnlyGrid, cells_of, added}

-- To each row from `from` up to `to` there is added the row p, times the row's cell at p.
pub record Passed {K : Type 0} (k : Algebra K) (p from to : ℕ) (s s' : System K) : Type 0 where
  pub inside : (i q : ℕ) → from ≤ i → i < to → q < s.n → cells_of k s' i q ≡ added k s i (cells_of k s i p) p q
  pub outside : (i q : ℕ) → i < s.n → q < s.n → (from ≤ i → i < to → ⊥) → cells_of k s' i q ≡ cells_of k s i q
  pub only : OnlyGrid s s'

module _ {K : Type 0} (k : Algebra K) (n : ℕ) where
  -- A way from i to j may now pass p, any number of times.
  abbrev pub Stepped : ℕ → (ℕ → ℕ → K) → (ℕ → ℕ → K) → Type 0
  Stepped p a a' = (i j : ℕ) → i < n → j < n → a' i j ≡ k.plus (a i j) (k.times (a i p) (k.times (k.star (a p p)) (a p j)))

  -- g has every way of a that passes rows below p only: it has the cells of a, and ways that meet
  -- below p are joined. It has nothing else: whatever values a keeps under themselves, g does.
  pub record Closed (p : ℕ) (a g : ℕ → ℕ → K) : Type 0 where
    pub entries : (i j : ℕ) → i < n → j < n → Under k (a i j) (g i j)
    pub joined : (i m j : ℕ) → i < n → m < p → j < n → Under k (k.times (g i m) (g m j)) (g i j)
    pub kept : (y : ℕ → K) → ((i j : ℕ) → i < n → j < n → Under k (k.times (a i j) (y j)) (y i)) → (i j : ℕ) → i < n → j < n → Under k (k.times (g i j) (y j)) (y i)
