-- Linear systems x = A x + b in n unknowns over a kind, and what their least solution is. Rows,
-- columns and values are functions of the place; only places below n count.
use Rattle.std.specs.Prelude.{◌≡◌, ℕ, ◌+◌, ◌*◌, ◌<◌, List, length, drop, slice_index_or}
use Rattle.semiring.specs.Algebra.{Algebra, Under}
use Rattle.semiring.specs.Sums.{sum_to}

module _ {K : Type 0} (k : Algebra K) (n : ℕ) where
  -- A x + b at row r
  abbrev pub right_side : (ℕ → ℕ → K) → (ℕ → K) → (ℕ → K) → ℕ → K
  right_side a b x r = k.plus (sum_to k (λ q. k.times (a r q) (x q)) n) (b r)

  -- x solves the system, and lies place by place under every y with A y + b under y; so it lies
  -- under every other solution.
  pub record Least (a : ℕ → ℕ → K) (b x : ℕ → K) : Type 0 where
    pub solves : (r : ℕ) → r < n → x r ≡ right_side a b x r
    pub least : (y : ℕ → K) → ((r : ℕ) → r < n → Under k (right_side a b y r) (y r)) → (r : ℕ) → r < n → Under k (x r) (y r)

-- Whatever the kind, every system has a least solution, and no two.
pub record OneSolution {K : Type 0} (k : Algebra K) : Type 0 where
  pub some : (n : ℕ) (a : ℕ → ℕ → K) (b : ℕ → K) → (x : ℕ → K) × Least k n a b x
  pub unique : (n : ℕ) (a : ℕ → ℕ → K) (b x y : ℕ → K) → Least k n a b x → Least k n a b y → (r : ℕ) → r < n → x r ≡ y r

-- The grid of a system as it lies in a slice: row r, place q at r × n + q. A column has the value
-- of row r at r.
abbrev pub cell : {K : Type 0} → Algebra K → ℕ → List K → ℕ → ℕ → K
cell k n grid r q = slice_index_or grid (r * n + q) k.zero

abbrev pub entry_at : {K : Type 0} → Algebra K → List K → ℕ → K
entry_at k column r = slice_index_or column r k.zero

-- The first n × n places of a grid are free to a solver: of them nothing is said. All others are as
-- they were.
pub record Free {K : Type 0} (n : ℕ) (grid grid' : List K) : Type 0 where
  pub size : length grid' ≡ length grid
  pub tail : drop (n * n) grid' ≡ drop (n * n) grid

-- What a solver leaves of a system: in the column's first n places the least solution, and past
-- them what was there.
pub record Leaves {K : Type 0} (k : Algebra K) (n : ℕ) (grid column grid' column' : List K) : Type 0 where
  pub least : Least k n (cell k n grid) (entry_at k column) (entry_at k column')
  pub places : drop n column' ≡ drop n column
  pub cells : Free n grid grid'
