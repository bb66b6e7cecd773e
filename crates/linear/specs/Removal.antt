-- Elimination: how the removal of unknowns changes a system, and how far it has come. A row names
-- an unknown where its cell there is not zero.
use Rattle.std.specs.Prelude.{◌≡◌, ℕ, ◌<◌, ◌≤◌, drop}
use Rattle.semiring.specs.Algebra.{Algebra, Under}
use Rattle.linear.specs.declared.system.System.{System}
use Rattle.linear.specs.System.{right_side, Free}
use Rattle.linear.specs.Rows.{SameSlices, cells_of, values_of}

module _ {K : Type 0} (k : Algebra K) (n : ℕ) where
  -- y has A y + b under it, place by place.
  abbrev pub Above : (ℕ → ℕ → K) → (ℕ → K) → (ℕ → K) → Type 0
  Above a b y = (r : ℕ) → r < n → Under k (right_side k n a b y r) (y r)

  -- x is A x + b.
  abbrev pub Solves : (ℕ → ℕ → K) → (ℕ → K) → (ℕ → K) → Type 0
  Solves a b x = (r : ℕ) → r < n → x r ≡ right_side k n a b x r

  -- The system of a' and b' may stand for that of a and b: what lies above the old one lies above
  -- the new one, and what solves the new one solves the old one.
  pub record Refines (a : ℕ → ℕ → K) (b : ℕ → K) (a' : ℕ → ℕ → K) (b' : ℕ → K) : Type 0 where
    pub above : (y : ℕ → K) → Above a b y → Above a' b' y
    pub solves : (x : ℕ → K) → Solves a' b' x → Solves a b x

  -- No row from its own number on names an unknown before p, and no row from p up to i names p.
  pub record Cleared (p i : ℕ) (a : ℕ → ℕ → K) : Type 0 where
    pub before : (r q : ℕ) → r < n → q < p → q ≤ r → a r q ≡ k.zero
    pub here : (r : ℕ) → p ≤ r → r < i → a r p ≡ k.zero

-- The removal has come so far, and the new system, in the slices of the old one, may stand for it.
-- What lies past the system is as it was.
pub record Removed {K : Type 0} (k : Algebra K) (p i : ℕ) (s s' : System K) : Type 0 where
  pub refines : Refines k s.n (cells_of k s) (values_of k s) (cells_of k s') (values_of k s')
  pub cleared : Cleared k s.n p i (cells_of k s')
  pub slices : SameSlices s s'
  pub cells : Free s.n s.grid.now s'.grid.now
  pub places : drop s.n s'.column.now ≡ drop s.n s.column.now
